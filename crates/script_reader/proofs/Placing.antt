-- The places of commands, with one command more.
use Rattle.std.proofs.Common.{◌≡◌, ◌≢◌, ◌≤◌, ◌<◌, ◌+◌, ℕ, Bool, true, false, All, List, [], ◌∷◌, ◌++◌, length, get_or, refl, sym, ◌∙◌, ap, subst, append-nil, arith}
use Rattle.std.specs.Prelude.{if◌then◌else◌}
use Rattle.std.proofs.lemmas.Bool.{false≢true}
use Rattle.std.proofs.lemmas.List.Elements.{All-nil, All-cons}
use Rattle.uid_names.specs.Names.{ProcName, place_of_process, same_proc}
use Rattle.uid_names.proofs.Orders.{same_proc_is, same_proc-itself}
use Rattle.dom_history.specs.Ranges.{IsProcName}
use Rattle.script_reader.specs.Places.{places_of}
use Rattle.script_reader.specs.Walk.Placed.{HoldsPlaces}
use Rattle.script_reader.specs.declared.script.CommandRow.{CommandRow}
use Rattle.script_reader.proofs.Held.{one_place}

-- a command behind the others
places-push : (n : ℕ) (proc : ProcName) (rows : List CommandRow) (row : CommandRow) → places_of n proc (rows ++ row ∷ []) ≡ places_of n proc rows ++ (if same_proc row.proc proc then (n + length rows) ∷ [] else [])
places-push n proc [] row =
    let here : n ≡ n + length {A = CommandRow} [] = omega arith in
    ap (λ k. if same_proc row.proc proc then k ∷ [] else []) here
places-push n proc (x ∷ rows) row =
    let next : (n + 1) + length rows ≡ n + length (x ∷ rows) = omega arith in
    let rest : places_of (n + 1) proc (rows ++ row ∷ []) ≡ places_of (n + 1) proc rows ++ (if same_proc row.proc proc then (n + length (x ∷ rows)) ∷ [] else []) =
    places-push (n + 1) proc rows row ∙ ap (λ k. places_of (n + 1) proc rows ++ (if same_proc row.proc proc then k ∷ [] else [])) next in
    elim (same_proc x.proc proc) as (λ t. (if t then n ∷ places_of (n + 1) proc (rows ++ row ∷ []) else places_of (n + 1) proc (rows ++ row ∷ [])) ≡ (if t then n ∷ places_of (n + 1) proc rows else places_of (n + 1) proc rows) ++ (if same_proc row.proc proc then (n + length (x ∷ rows)) ∷ [] else [])) [
      | true ↦ ap (λ places. n ∷ places) rest
      | false ↦ rest
    ]

pub HoldsPlaces-push : (old new : List (List ℕ)) (rows : List CommandRow) (row : CommandRow) → HoldsPlaces old rows → IsProcName row.proc → get_or new (place_of_process row.proc) [] ≡ get_or old (place_of_process row.proc) [] ++ length rows ∷ []
    → ((slot : ℕ) → slot ≢ place_of_process row.proc → get_or new slot [] ≡ get_or old slot []) → HoldsPlaces new (rows ++ row ∷ [])
HoldsPlaces-push old new rows row h is own others proc good = rw (places-push 0 proc rows row) (by_proc (same_proc row.proc proc) refl) where
  first : (0 + length rows) ≡ length rows
  first = omega arith

  by_proc : (t : Bool) → same_proc row.proc proc ≡ t → get_or new (place_of_process proc) [] ≡ places_of 0 proc rows ++ (if t then (0 + length rows) ∷ [] else [])
  by_proc true e =
      let same = same_proc_is row.proc proc e in
      subst (λ p. get_or new (place_of_process p) [] ≡ get_or old (place_of_process p) [] ++ length rows ∷ []) same own ∙ (ap (λ places. places ++ length rows ∷ []) (h proc good) ∙ ap (λ k. places_of 0 proc rows ++ k ∷ []) (sym first))
  by_proc false e =
      let other : place_of_process proc ≢ place_of_process row.proc = λ slot. false≢true (sym e ∙ ap (λ p. same_proc row.proc p) (one_place proc row.proc good is slot) ∙ same_proc-itself row.proc) in
      others (place_of_process proc) other ∙ (h proc good ∙ sym (append-nil (places_of 0 proc rows)))

-- places stand among the commands
places_within : (n m : ℕ) (proc : ProcName) (rows : List CommandRow) → n + length rows ≤ m → All (λ place. place < m) (places_of n proc rows)
places_within n m proc [] h = All-nil (λ place. place < m)
places_within n m proc (x ∷ rows) h =
    let rest = places_within (n + 1) m proc rows (omega (arith, h)) in
    elim (same_proc x.proc proc) as (λ t. All (λ place. place < m) (if t then n ∷ places_of (n + 1) proc rows else places_of (n + 1) proc rows)) [
      | true ↦ All-cons (λ place. place < m) n (places_of (n + 1) proc rows) (omega (arith, h)) rest
      | false ↦ rest
    ]

pub places_bounded : (proc : ProcName) (rows : List CommandRow) → All (λ place. place < length rows) (places_of 0 proc rows)
places_bounded proc rows = places_within 0 (length rows) proc rows (omega arith)
