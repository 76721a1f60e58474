-- The order of names, records and blocks, by its fields.
use Rattle.std.specs.Prelude.{slice_index, refl}
use Rattle.sets.specs.Orders.{Order}
use Rattle.sets.proofs.Listing.{by_fields}
use Rattle.model.specs.declared.names.Name.{Name}
use Rattle.model.specs.declared.records.Record.{Record}
use Rattle.model.specs.declared.blocks.AcceptBlock.{AcceptBlock}
use Rattle.model.specs.declared.blocks.MapBlock.{MapBlock}
use Rattle.model.specs.Orders.{name_fields, record_fields, accept_fields, map_fields}

abbrev pub name_order : Order Name
name_order = by_fields name_fields (λ ns. record { component = slice_index ns 0; address = slice_index ns 1 }) (λ x. refl)

abbrev pub record_order : Order Record
record_order = by_fields record_fields (λ ns. record { lo = slice_index ns 0; hi = slice_index ns 1; component = slice_index ns 2; base = slice_index ns 3 }) (λ x. refl)

abbrev pub accept_order : Order AcceptBlock
accept_order = by_fields accept_fields (λ ns. record { node = slice_index ns 0; lo = slice_index ns 1; hi = slice_index ns 2 }) (λ x. refl)

abbrev pub map_order : Order MapBlock
map_order = by_fields map_fields (λ ns. record { node = slice_index ns 0; lo = slice_index ns 1; hi = slice_index ns 2; destination = slice_index ns 3; base = slice_index ns 4 }) (λ x. refl)
