use denote.Param.Send.{Quiet-if}
use mir.Syntax.{of_param}
use Rattle.std.proofs.Common.{rules}
use Rattle.node_threads.proofs.threads.serve_all.Goals as goal

pub scoped-requires : goal.scoped-requires
scoped-requires g c = record {
  at = λ a. (
    (
      record { owned = c.type_bounds.send-P.owned; leaving = λ k. Quiet-if (k (of_param 0)) _ _ (λ x w. tt) (λ x w. tt) },
      record { owned = c.type_bounds.send-G.owned; leaving = λ k. Quiet-if (k (of_param 1)) _ _ (λ x w. tt) (λ x w. tt) },
      search rules,
      search rules,
    ),
    (
      c.requires.last,
      (
        c.requires.run,
        (
          record { owned = c.type_bounds.send-P.owned; leaving = λ k. Quiet-if (k (of_param 0)) _ _ (λ x w. tt) (λ x w. tt) },
          record { owned = c.type_bounds.send-G.owned; leaving = λ k. Quiet-if (k (of_param 1)) _ _ (λ x w. tt) (λ x w. tt) },
          search rules,
          search rules,
        ),
      ),
    ),
  );
}
