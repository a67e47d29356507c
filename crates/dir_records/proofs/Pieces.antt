-- The pieces of a text between its slashes, by the first of these.
use Rattle.std.proofs.Common.{◌≡◌, ℕ, ◌==◌, Bool, true, false, cond, Option, Some, None, List, [], ◌∷◌, ◌++◌, refl, ap, ◌∙◌, sym, append_assoc}
use Rattle.dom_text.specs.Cuts.{cut_at, with_front}
use Rattle.dir_records.specs.declared.path.Start.TheVariants.{Node}
use Rattle.dir_records.specs.Wholes.{before, in_front}
use Rattle.dir_records.specs.Components.{is_component}
use Rattle.dir_records.specs.Paths.{pieces, onto_first, is_node_name, names_of, along, from_node}

-- the pieces of a text that is cut so
abbrev cut_pieces : List ℕ → Option (List ℕ × List ℕ) → List (List ℕ)
cut_pieces text None = text ∷ []
cut_pieces text (Some (front, back)) = front ∷ pieces back

onto : (b : ℕ) (rest : List ℕ) (parts : Option (List ℕ × List ℕ)) → onto_first b (cut_pieces rest parts) ≡ cut_pieces (b ∷ rest) (with_front b parts)
onto b rest None = refl
onto b rest (Some parts) = refl

-- they are those of the first cut
pub pieces_cut : (text : List ℕ) → pieces text ≡ cut_pieces text (cut_at 47 text)
unfolding pieces cut_at
pieces_cut [] = refl
pieces_cut (b ∷ rest) = by_test (b == 47) (ap (onto_first b) (pieces_cut rest) ∙ onto b rest (cut_at 47 rest)) where
  by_test : (t : Bool) → onto_first b (pieces rest) ≡ cut_pieces (b ∷ rest) (with_front b (cut_at 47 rest)) → cond t ([] ∷ pieces rest) (onto_first b (pieces rest)) ≡ cut_pieces (b ∷ rest) (cond t (Some ([], rest)) (with_front b (cut_at 47 rest)))
  by_test true other = refl
  by_test false other = other

-- without a cut the text is the one piece
pub one_piece : (text : List ℕ) → cut_at 47 text ≡ None → pieces text ≡ text ∷ []
one_piece text e = pieces_cut text ∙ ap (cut_pieces text) e

-- with one it is the first of them
pub first_piece : (text front back : List ℕ) → cut_at 47 text ≡ Some (front, back) → pieces text ≡ front ∷ pieces back
first_piece text front back e = pieces_cut text ∙ ap (cut_pieces text) e

onto_front : (names : List (List ℕ)) (name : List ℕ) (rest : Option (List (List ℕ))) → in_front names (before (Some name) rest) ≡ in_front (names ++ name ∷ []) rest
onto_front names name None = refl
onto_front names name (Some rest) = ap (λ (l : List (List ℕ)). Some l) (sym (append_assoc names (name ∷ []) rest))

-- one name more, behind those that were read
pub name_read : (text front back : List ℕ) (names : List (List ℕ)) → cut_at 47 text ≡ Some (front, back) → is_component front ≡ true → in_front names (names_of (pieces text)) ≡ in_front (names ++ front ∷ []) (names_of (pieces back))
name_read text front back names e form = rw (first_piece text front back e, form) (onto_front names front (names_of (pieces back)))

-- the path from a node
pub node_first : (text front back : List ℕ) → cut_at 47 text ≡ Some (front, back) → is_node_name front ≡ true → from_node (pieces text) ≡ along (Node front) (names_of (pieces back))
node_first text front back e form = rw (first_piece text front back e, form) refl
