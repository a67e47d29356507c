use Rattle.address_map.proofs.Keeps.{IsLayout-none, IsLayout-without_mapping}
use Rattle.address_map.proofs.Changes.{IsLayout-mappings_after}
use Rattle.address_map.proofs.laws.changes_keep_the_layout.Goals as goal

pub returns : goal.returns
returns c = record { start = IsLayout-none; mapped = IsLayout-mappings_after; unmapped = IsLayout-without_mapping }
