-- The enabled ones of candidates, part by part.
use Rattle.std.proofs.Common.{◌≡◌, ℕ, zero, suc, ◌+◌, ◌<◌, Option, List, [], ◌∷◌, ◌++◌, map, drop, length, get_or, sym, ap, ◌∙◌}
use Rattle.std.specs.Prelude.{filter, option_to_list}
use Rattle.std.proofs.lemmas.List.{map-append, append_assoc, append-nil, drop_more}
use Rattle.std.proofs.lemmas.List.Elements.{filter-append}
use Rattle.std.proofs.lemmas.Simd.{map-map}
use Rattle.uid_names.proofs.ListLemmas.{filter-map}
use Rattle.dom_history.specs.declared.event.What.{What}
use Rattle.node_runs.specs.Incomings.Incoming.{Nothing}
use Rattle.node_core.specs.Nodes.{Noted, is_enabled}
use Rattle.node_core.specs.Starts as started
use Rattle.world_core.specs.declared.coming.Coming.{Coming}
use Rattle.ring_links.specs.declared.notice.Notice.{Notice}
use Rattle.world_core.specs.declared.station.LinkFrom.{LinkFrom}
use Rattle.world_core.specs.Stations.{Candidate, start, notice_at, starts_of, noticed, oldest_of, oldest, passes, comings}

-- the events of the processes up to this one
abbrev pub starts_up_to : ℕ → List Candidate
starts_up_to zero = []
starts_up_to (suc p) = starts_up_to p ++ starts_of (p + 1)

module _ {P : Type 0} where
  pub comings_append : (node : Noted P) (xs ys : List Candidate) → comings node (xs ++ ys) ≡ comings node xs ++ comings node ys
  comings_append node xs ys =
      ap (map (λ (c : Candidate). c.coming)) (filter-append (passes node) xs ys)
      ∙ map-append (λ (c : Candidate). c.coming) (filter (passes node) xs) (filter (passes node) ys)

  pub comings_cons : (node : Noted P) (c : Candidate) (cs : List Candidate) → comings node (c ∷ cs) ≡ comings node (c ∷ []) ++ comings node cs
  comings_cons node c cs = comings_append node (c ∷ []) cs

  -- what is put part after part
  pub put_more : (node : Noted P) (l m n : List Coming) (xs ys : List Candidate) → m ≡ l ++ comings node xs → n ≡ m ++ comings node ys → n ≡ l ++ comings node (xs ++ ys)
  put_more node l m n xs ys h k =
      k ∙ ap (λ (cs : List Coming). cs ++ comings node ys) h ∙ append_assoc l (comings node xs) (comings node ys) ∙ ap (λ (cs : List Coming). l ++ cs) (sym (comings_append node xs ys))

  -- which event of a process is put
  pub put_started : (node : Noted P) (l m : List Coming) (p : ℕ) (o : Option What) → option_to_list o ≡ filter (λ what. is_enabled node what Nothing) (started.starts_of p)
      → m ≡ l ++ map (λ what. (start what).coming) (option_to_list o) → m ≡ l ++ comings node (starts_of p)
  put_started node l m p o enabled put =
      put ∙ ap (λ (cs : List Coming). l ++ cs)
      (ap (map (λ (what : What). (start what).coming)) enabled ∙ sym (map-map (λ (c : Candidate). c.coming) start (filter (λ what. is_enabled node what Nothing) (started.starts_of p)))
      ∙ ap (map (λ (c : Candidate). c.coming)) (sym (filter-map start (passes node) (started.starts_of p))))

  -- one notice more
  pub noticed_step : (node : Noted P) (notices : List Notice) (i : ℕ) (x : Notice) → i < length notices → get_or notices i x ≡ x
      → comings node (noticed i (drop i notices)) ≡ comings node (notice_at i x ∷ []) ++ comings node (noticed (i + 1) (drop (i + 1) notices))
  noticed_step node notices i x within same =
      ap (λ (xs : List Notice). comings node (noticed i xs)) (drop_more notices i x within ∙ ap (λ (y : Notice). y ∷ drop (i + 1) notices) same)
      ∙ comings_cons node (notice_at i x) (noticed (i + 1) (drop (i + 1) notices))

  -- one link more
  pub oldest_step : (node : Noted P) (ins : List LinkFrom) (i : ℕ) (l : LinkFrom) → i < length ins → get_or ins i l ≡ l
      → comings node (oldest i (drop i ins)) ≡ comings node (oldest_of i l.from l.link.queue) ++ comings node (oldest (i + 1) (drop (i + 1) ins))
  oldest_step node ins i l within same =
      ap (λ (ls : List LinkFrom). comings node (oldest i ls)) (drop_more ins i l within ∙ ap (λ (k : LinkFrom). k ∷ drop (i + 1) ins) same)
      ∙ comings_append node (oldest_of i l.from l.link.queue) (oldest (i + 1) (drop (i + 1) ins))

  -- all parts
  pub put_all : (node : Noted P) (l a b c d : List Coming) (ws xs ys zs : List Candidate) → l ≡ [] → a ≡ l ++ comings node ws → b ≡ a ++ comings node xs → c ≡ b ++ comings node ys → d ≡ c ++ comings node zs
      → d ≡ comings node (ws ++ (xs ++ (ys ++ zs)))
  put_all node l a b c d ws xs ys zs none h i j k =
      let both = put_more node b c d ys zs j k in
      let three = put_more node a b d xs (ys ++ zs) i both in
      put_more node l a d ws (xs ++ (ys ++ zs)) h three ∙ ap (λ (cs : List Coming). cs ++ comings node (ws ++ (xs ++ (ys ++ zs)))) none

-- a part more is put of what is left
pub go_on : (full l m a rest left : List Coming) → full ≡ l ++ rest → rest ≡ a ++ left → m ≡ l ++ a → full ≡ m ++ left
go_on full l m a rest left h step put = h ∙ ap (λ (cs : List Coming). l ++ cs) step ∙ sym (append_assoc l a left) ∙ ap (λ (cs : List Coming). cs ++ left) (sym put)

-- nothing is left
pub at_end : (full l rest : List Coming) → full ≡ l ++ rest → rest ≡ [] → l ≡ full
at_end full l rest h none = sym (h ∙ ap (λ (cs : List Coming). l ++ cs) none ∙ append-nil l)
