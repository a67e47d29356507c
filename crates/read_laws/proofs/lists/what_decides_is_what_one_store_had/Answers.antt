use Rattle.script_runs.specs.Histories.{script_history}
use Rattle.read_laws.proofs.Asked.{ReadsAreOfStore, decides}
use Rattle.read_laws.proofs.lists.what_decides_is_what_one_store_had.Goals as goal

pub returns : goal.returns
returns c =
    let read : ReadsAreOfStore = λ opening h p u newer items older bytes legal stand reads. record {
      loads = c.objects_are_read_as_one_store_has_them.ensures.loads opening h legal p u newer items older stand reads.asks;
      whole = c.objects_are_read_as_one_store_has_them.ensures.whole opening h legal p u newer items older bytes stand reads.asks reads.ends;
    } in
    record {
      history = λ opening h legal p who errand come check is. decides read opening h p who errand come check legal is;
      run = λ s content start events w ended p who errand come check is.
          decides read s.opening (script_history s events) p who errand come check ((c.ended_runs_of_scripts_are_as_one_store.ensures s content start events w ended).legal) is;
    }
