-- One name that opens every definition that a tape's answer is made of, for proofs by computation: `unfolding opened`.
use Rattle.paper.specs.Format.{base, signed}
use Rattle.paper.specs.Tables.{row_of, row_back, rows, fields_kept, follows, row_kept, bad_row, row_types, types, type_number}
use Rattle.paper.specs.Closeness.{nodes, of_kind, kinds_meet, meet_at, closest_of}
use Rattle.paper.specs.Shapes.{entry_of, entries, entry_kept, bad_entry, shape_over}
use Rattle.paper.specs.NewTable.{beneath, tops, lines}
use Rattle.paper.specs.Figures.{entry_lines, appears, different_rows}
use Rattle.paper.specs.Calls.{type_too_many, type_missing, tests1_3, tests1_4, tests5_6, tests5_7, test8}
use Rattle.totals.specs.Sums.{within}
use Rattle.totals.specs.Tape.{value_of, type_rows, out_of_range, shown_rows, unshown_rows, sums_of, sum_tape, sum_of_type}
use Rattle.totals.specs.Total.{cannot_be, total_with, take_in}

unfoldable pub opened : Unit {0}
unfolding base signed row_of row_back rows fields_kept follows row_kept bad_row row_types types type_number nodes of_kind kinds_meet meet_at closest_of entry_of
    entries entry_kept bad_entry shape_over beneath tops lines entry_lines appears different_rows type_too_many type_missing tests1_3 tests1_4 tests5_6 tests5_7
    test8 within value_of type_rows out_of_range shown_rows unshown_rows sums_of sum_tape sum_of_type cannot_be total_with take_in
opened = tt
