-- `line::put_line`: the entries from each on are still to be put, and each takes at most 95 bytes. Assumes nothing.
use Prim.Native.Nat.{◌≤◌}
use native.Mathlib.Omega.{arith}
use mathlib.Core.Path.{◌≡◌, ◌∙◌, ap}
use Rattle.std.proofs.Common.{rules}
use Rattle.paper.specs.Format.{most_entries, entry_bytes}
use Rattle.tables.proofs.Rows.{rec}
use Rattle.spelling.proofs.Walk.{count_fits, entry_in, level_in, size_in, going_first, going_on, going_last}
use Rattle.spelling.proofs.line.put_line.Goals as goal
use Rattle.spelling.proofs.line.put_line.Goals.{Start, After-record-first, After-record-entry}

-- there is an entry, and no more than 16
fits : (c : Start) → (1 ≤ c.args.entries) × (c.args.entries ≤ most_entries)
fits c = count_fits _ _ _ c.requires

-- the first entry's bytes
first-is : (c : After-record-first) → c.record-first.result.now ≡ rec (entry_bytes c.args.f) 0 c.args.shape.now
first-is c = c.record-first.ensures.0 ∙ ap (λ w. rec w 0 c.args.shape.now) c.entry_bytes-w.ensures

-- the next entry's bytes
next_is : (c : After-record-entry) → c.record-entry.result.now ≡ rec (entry_bytes c.args.f) c.loop-e.e c.args.shape.now
next_is c = c.record-entry.ensures.0 ∙ ap (λ w. rec w c.loop-e.e c.args.shape.now) c.entry_bytes-w.ensures

pub record-first-requires : goal.record-first-requires
record-first-requires c = entry_in _ _ _ c.requires 0 (fits (goal.at.record-first-requires c).Start).0 _ c.entry_bytes-w.ensures

pub put_path-p-requires : goal.put_path-p-requires
put_path-p-requires c =
    let at = goal.at.put_path-p-requires c in
    let size = size_in _ _ _ c.requires 0 (fits at.Start).0 _ (first-is at.After-record-first) _ c.wide.ensures.0 in
    (c.requires.served, c.record-first.ensures.1 ∙ c.entry_bytes-w.ensures, size.1, omega arith)

pub loop-e-init : goal.loop-e-init
loop-e-init c =
    let at = goal.at.loop-e-init c in
    let own = first-is at.After-record-first in
    let level = level_in _ _ _ c.requires 0 (fits at.Start).0 _ own _ c.wide-level.ensures.0 in
    (omega (arith, c.put_path-p.ensures.1), level.1, going_first _ _ _ c.requires _ own _ _ c.wide-level.ensures.0 c.wide.ensures.0 _ _ _ c.put_path-p.ensures.0)

pub record-entry-requires : goal.record-entry-requires
record-entry-requires c = entry_in _ _ _ c.requires c.loop-e.e (omega arith) _ c.entry_bytes-w.ensures

pub put_brackets-behind-requires : goal.put_brackets-behind-requires
put_brackets-behind-requires c =
    let at = goal.at.put_brackets-behind-requires c in
    let few = (fits at.Start).1 in
    let level = level_in _ _ _ c.requires c.loop-e.e (omega arith) _ (next_is at.After-record-entry) _ c.wide-next.ensures.0 in
    search rules

pub put_byte-gap-requires : goal.put_byte-gap-requires
put_byte-gap-requires c = let few = (fits (goal.at.put_byte-gap-requires c).Start).1 in search rules

pub put_path-p-requires-in-loop-e : goal.put_path-p-requires-in-loop-e
put_path-p-requires-in-loop-e c =
    let at = goal.at.put_path-p-requires-in-loop-e c in
    let few = (fits at.Start).1 in
    let size = size_in _ _ _ c.requires c.loop-e.e (omega arith) _ (next_is at.After-record-entry) _ c.wide-in-loop-e.ensures.0 in
    (c.requires.served, c.record-entry.ensures.1 ∙ c.entry_bytes-w.ensures, size.1, omega (arith, c.put_byte-gap.ensures.ends, c.put_brackets-behind.ensures.1))

pub loop-e-preserved : goal.loop-e-preserved
loop-e-preserved c =
    let at = goal.at.loop-e-preserved c in
    let level = level_in _ _ _ c.requires c.loop-e.e (omega arith) _ (next_is at.After-record-entry) _ c.wide-next.ensures.0 in (
      omega (arith, c.put_path-p-in-loop-e.ensures.1, c.put_byte-gap.ensures.ends, c.put_brackets-behind.ensures.1),
      level.1,
      going_on _ _ _ c.requires c.loop-e.level c.loop-e.e c.loop-e.invariant.2 (omega arith) _ (next_is at.After-record-entry)
          _ _ c.wide-next.ensures.0 c.wide-in-loop-e.ensures.0 c.put_brackets-behind.ensures.0 c.put_byte-gap.ensures
          c.put_path-p-in-loop-e.ensures.0,
    )

pub put_brackets-requires : goal.put_brackets-requires
put_brackets-requires c = let (some, few) = fits (goal.at.put_brackets-requires c).Start in search rules

pub returns : goal.returns
returns c =
    let (some, few) = fits (goal.at.returns c).Start in (
      going_last _ _ _ c.requires c.loop-e.level c.loop-e.e c.loop-e.invariant.2 (omega arith) c.put_brackets.ensures.0,
      omega (arith, c.put_brackets.ensures.1),
    )
