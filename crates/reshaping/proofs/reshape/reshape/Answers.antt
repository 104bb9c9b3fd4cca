-- `reshaping::reshape::reshape` meets its contract. Assumes nothing.
use mathlib.Core.Path.{refl}
use Rattle.std.proofs.lemmas.Result.{err_from_is_err_and}
use Rattle.paper.specs.Calls.{tests1_4}
use Rattle.paper.proofs.Seam.{seam}
use Rattle.reshaping.proofs.Seam.{refused-reshape}
use Rattle.reshaping.proofs.Lent.{leaves}
use borrow.Author.Rules.{rules}
use Rattle.reshaping.proofs.reshape.reshape.Goals as goal

pub returns-in_err-read : goal.returns-in_err-read
returns-in_err-read c =
    let a = c.args in
    let p = err_from_is_err_and c.from_residual.result c.from_residual.ensures.1 in
    let e = c.in_err-read.field-0.0 in
    let call = (seam a.f a.table.now (tests1_4 a.f a.table.now) refl).reshapes a.shape.now a.new.now a.sources.now in
    rw (p.1, p.2)
    (leaves c.requires _ _ a.new.now a.sources.now e (refused-reshape a.f a.shape.now a.new.now a.sources.now call e c.in_err-read.ensures))

pub next_rows-requires : goal.next_rows-requires
next_rows-requires c =
    let y = c.in_ok-read.ensures.1.rows_are in
    record { few = (y.few, y.types_long, search rules); typed = y.type_few }

pub reshape_rows-requires : goal.reshape_rows-requires
reshape_rows-requires c =
    let few = c.in_ok-read.ensures.1.rows_are.few in
    record { served = (c.requires, c.in_ok-read.ensures.1); next_rows = (c.next_rows.ensures, search rules) }
