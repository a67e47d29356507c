-- The desk that its private parts stand for: the view of a desk, which no clause cites.
use Rattle.fault_handler.specs.Desks.{DeskState}
use Rattle.fault_handler.specs.declared.desk.Desk.TheInside.{Inside}

abbrev pub desk_of : Inside → DeskState
desk_of d =
    record {
      node = d.node;
      nodes = d.nodes;
      cache = d.pages.cache;
      seen = d.seen;
      known = d.known;
      entries = d.entries;
      maps = d.maps;
      calls = d.calls;
      tasks = d.tasks;
      moving = d.pages.moving;
    }
