-- `word::is_name`: the part is compared with the name that the table holds. Assumes nothing.
use Rattle.names.proofs.Compared.{compared}
use Rattle.names.proofs.word.is_name.Goals as goal

pub returns : goal.returns
returns c = compared _ _ _ _ c.name_bytes.ensures.name c.eq.ensures
