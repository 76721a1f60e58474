-- The order of names, records and blocks: by their fields, from the first to the last.
use Rattle.std.specs.Prelude.{ℕ, Bool, ◌&&◌, List, [], ◌∷◌, ◌==◌}
use Rattle.std.specs.declared.cmp.Ordering.{Ordering}
use Rattle.sets.specs.Fields.{lex}
use Rattle.model.specs.declared.names.Name.{Name}
use Rattle.model.specs.declared.records.Record.{Record}
use Rattle.model.specs.declared.blocks.AcceptBlock.{AcceptBlock}
use Rattle.model.specs.declared.blocks.MapBlock.{MapBlock}

abbrev pub name_fields : Name → List ℕ
name_fields n = n.component ∷ (n.address ∷ [])

abbrev pub record_fields : Record → List ℕ
record_fields r = r.lo ∷ (r.hi ∷ (r.component ∷ (r.base ∷ [])))

abbrev pub accept_fields : AcceptBlock → List ℕ
accept_fields b = b.node ∷ (b.lo ∷ (b.hi ∷ []))

abbrev pub map_fields : MapBlock → List ℕ
map_fields b = b.node ∷ (b.lo ∷ (b.hi ∷ (b.destination ∷ (b.base ∷ []))))

abbrev pub rank_name : Name → Name → Ordering
rank_name m n = lex (name_fields m) (name_fields n)

abbrev pub rank_record : Record → Record → Ordering
rank_record r s = lex (record_fields r) (record_fields s)

abbrev pub rank_accept : AcceptBlock → AcceptBlock → Ordering
rank_accept b c = lex (accept_fields b) (accept_fields c)

abbrev pub rank_map : MapBlock → MapBlock → Ordering
rank_map b c = lex (map_fields b) (map_fields c)

abbrev pub same_record : Record → Record → Bool
same_record r s = r.lo == s.lo && (r.hi == s.hi && (r.component == s.component && r.base == s.base))
