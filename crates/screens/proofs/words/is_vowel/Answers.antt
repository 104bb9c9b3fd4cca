-- `words::is_vowel`: the bytes that are searched are those of the definition. Assumes nothing.
use Rattle.screens.proofs.Articles.{among_vowels}
use Rattle.screens.proofs.words.is_vowel.Goals as goal

pub returns : goal.returns
returns c = among_vowels _ _ c.contains.ensures.value
