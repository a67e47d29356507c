use Rattle.node_runs.proofs.Stepping.{room-steps, steps-room}
use Rattle.node_runs.proofs.laws.which_page_makes_room_is_free.Goals as goal

pub returns : goal.returns
returns c = record {
  each = λ g n what incoming p o stage d task victim is comes may. room-steps g n what incoming p o stage d task victim is comes may;
  only = λ g n what incoming dropped s p o stage d task comes e. steps-room g n what incoming dropped s p o stage d task comes e;
}
