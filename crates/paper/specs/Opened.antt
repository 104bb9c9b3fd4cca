-- One name that opens every definition, for proofs by computation: `unfolding opened`.
use Rattle.paper.specs.Format.{base, signed}
use Rattle.paper.specs.Tables.{row_of, row_back, rows, fields_kept, follows, row_kept, bad_row, row_types, types, type_number}
use Rattle.paper.specs.Closeness.{nodes, of_kind, kinds_meet, meet_at, closest, closest_of, closest_number, closest_pairs, kinds_distance, least_distance}
use Rattle.paper.specs.Shapes.{entry_of, entries, entry_kept, bad_entry, shape_over}
use Rattle.paper.specs.Adorned.{children_of, counts, summary, adorned}
use Rattle.paper.specs.NewTable.{beneath, tops, lines, line_row, new_table, source_list}
use Rattle.paper.specs.Figures.{entry_lines, appears, different_rows, figures}
use Rattle.paper.specs.Partners.{child_numbers, parent_numbers, edge_numbers}
use Rattle.paper.specs.Verdict.{meeting, alone, full, edge_level, meets_least, sure, lone, pair_fault, verdict, none_apart}
use Rattle.paper.specs.Calls.{type_too_many, type_missing, tests1_3, tests1_4, tests5_6, tests5_7, test8, examine, look_up}
use Rattle.paper.specs.Calls.{reader_row, reader_next, adorning, adorn, judge_rows, judge, reshaping, reshape_rows, reshape, summarise_rows, summarise}
use Rattle.paper.specs.Links.{new_nodes, source_row, shown_pairs, source_pairs, LinksKept}
use Rattle.paper.specs.MadeUp.{fork_entry, NothingMadeUp, unshown}

unfoldable pub opened : Unit {0}
unfolding base signed row_of row_back rows fields_kept follows row_kept bad_row row_types types type_number nodes of_kind kinds_meet meet_at closest closest_of
    closest_number closest_pairs kinds_distance least_distance entry_of entries entry_kept bad_entry shape_over children_of counts summary adorned beneath
    tops lines line_row child_numbers parent_numbers edge_numbers new_table source_list meeting alone full edge_level meets_least sure lone
    pair_fault verdict none_apart type_too_many type_missing tests1_3 tests1_4 tests5_6 tests5_7 test8 examine look_up reader_row reader_next adorning adorn
    judge_rows judge reshaping reshape_rows reshape summarise_rows summarise entry_lines appears different_rows figures new_nodes source_row shown_pairs source_pairs LinksKept fork_entry
    NothingMadeUp unshown
opened = tt
