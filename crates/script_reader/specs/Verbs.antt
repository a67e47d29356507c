-- The commands: a row for each, with its word and its arguments in order.
use Rattle.std.specs.Prelude.{ℕ, List, [], ◌∷◌, codes}
use Rattle.script_reader.specs.declared.words.Verb.{Verb}
use Rattle.script_reader.specs.declared.words.Verb.TheVariants as verb
use Rattle.script_reader.specs.declared.words.Kind.{Kind}
use Rattle.script_reader.specs.declared.words.Kind.TheVariants as kind

pub record VerbRow : Type 0 where
  pub word : List ℕ
  pub shape : List Kind

abbrev pub row_with : List ℕ → List Kind → VerbRow
row_with word shape = record { word = word; shape = shape }

abbrev pub verb_row : Verb → VerbRow
verb_row verb.New = row_with (codes "new") (kind.NewVar ∷ kind.Room ∷ kind.Home ∷ [])
verb_row verb.Lock = row_with (codes "lock") (kind.Var ∷ kind.Mode ∷ [])
verb_row verb.Unlock = row_with (codes "unlock") (kind.Var ∷ [])
verb_row verb.Delete = row_with (codes "delete") (kind.Var ∷ [])
verb_row verb.Load = row_with (codes "load") (kind.Var ∷ kind.Offset ∷ kind.Count ∷ [])
verb_row verb.Store = row_with (codes "store") (kind.Var ∷ kind.Offset ∷ kind.Text ∷ [])
verb_row verb.Length = row_with (codes "length") (kind.Var ∷ [])
verb_row verb.Map = row_with (codes "map") (kind.Var ∷ [])
verb_row verb.Unmap = row_with (codes "unmap") (kind.Var ∷ [])
verb_row verb.Loadat = row_with (codes "loadat") (kind.Address ∷ kind.Count ∷ [])
verb_row verb.Storeat = row_with (codes "storeat") (kind.Address ∷ kind.Text ∷ [])
verb_row verb.Bind = row_with (codes "bind") (kind.NewVar ∷ kind.Path ∷ [])
verb_row verb.Crf = row_with (codes "crf") (kind.Path ∷ kind.OptionalRoom ∷ [])
verb_row verb.Crd = row_with (codes "crd") (kind.Path ∷ [])
verb_row verb.Crl = row_with (codes "crl") (kind.Path ∷ kind.Path ∷ [])
verb_row verb.Dlf = row_with (codes "dlf") (kind.Path ∷ [])
verb_row verb.Catf = row_with (codes "catf") (kind.Path ∷ [])
verb_row verb.Lnf = row_with (codes "lnf") (kind.Path ∷ [])
verb_row verb.Apf = row_with (codes "apf") (kind.Path ∷ kind.Text ∷ [])
verb_row verb.Cpf = row_with (codes "cpf") (kind.Path ∷ kind.Path ∷ [])
verb_row verb.Crm = row_with (codes "crm") (kind.Path ∷ [])
verb_row verb.Putm = row_with (codes "putm") (kind.Path ∷ kind.Message ∷ [])
verb_row verb.Takem = row_with (codes "takem") (kind.Path ∷ [])
verb_row verb.Ld = row_with (codes "ld") (kind.Path ∷ [])
verb_row verb.Wd = row_with (codes "wd") (kind.OptionalPath ∷ [])
verb_row verb.Llkob = row_with (codes "llkob") (kind.HomeNode ∷ [])
