use Rattle.plain_store.proofs.kept.Kept.new.Goals as goal

pub returns-clause-held : goal.returns-clause-held
returns-clause-held c = record {
  objects = c.in_ok-new.ensures.held;
  locks = c.new-2.ensures;
  maps = c.new-3.ensures c.args.opening.now;
  bytes = record { bytes = c.new-4.ensures };
  lengths = c.new-5.ensures c.args.opening.now;
}
