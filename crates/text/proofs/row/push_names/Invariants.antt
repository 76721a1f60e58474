use Rattle.std.proofs.Common.{◌≡◌, ◌++◌, drop, string_bytes}
use Rattle.text.specs.Rows.{names_text}
use Rattle.text.proofs.row.push_names.Given as goal

abbrev pub invariant-loop-name : goal.invariant-loop-name
invariant-loop-name l = string_bytes l.out ++ names_text (drop l.name-index l.names) ≡ string_bytes l.initial.out ++ names_text l.names
