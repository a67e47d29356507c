-- What may be there and is: by a predicate, by a test, under a map, behind a step that may find nothing.
use Rattle.std.proofs.Common.{◌≡◌, true, false, Option, Some, None, IfSome, IsSome, refl, sym, subst}
use Rattle.std.specs.Prelude.{is_some, is_none, ◌↔◌}
use Rattle.std.specs.Option.{option_map, option_or}
use Rattle.std.proofs.lemmas.Option.{same_Some}
use Rattle.uid_names.specs.Steps.{◌>>=◌}

-- what is there
pub there_is : {A : Type 0} (o : Option A) → IsSome o → (x : A) × (o ≡ Some x)
there_is None some = absurd (cc)
there_is (Some x) some = (x, refl)

-- what a test finds there
pub found_there : {A : Type 0} (o : Option A) → is_some o ≡ true → (x : A) × (o ≡ Some x)
found_there None h = absurd (cc)
found_there (Some x) h = (x, refl)

-- what it does not find there
pub none-there : {A : Type 0} (o : Option A) → is_some o ≡ false → o ≡ None
none-there None h = refl
none-there (Some x) h = absurd (cc)

-- what a test finds absent
pub none-is : {A : Type 0} (o : Option A) → is_none o ≡ true → o ≡ None
none-is None is = refl
none-is (Some x) is = absurd (cc)

-- what holds of each value that is there
pub some-each : {A : Type 0} (o : Option A) (P : A → Type 0) → ((x : A) → o ≡ Some x → P x) → IfSome o P
some-each None P each = tt
some-each (Some a) P each = each a refl

-- what holds of what may be there holds of what is
pub take-some : {A : Type 0} (P : A → Type 0) (o : Option A) (x : A) → o ≡ Some x → IfSome o P → P x
take-some P o x there holds = subst (λ r. IfSome r P) there holds

-- nothing instead changes nothing
pub option_or-none : {A : Type 0} (o : Option A) → option_or o None ≡ o
option_or-none None = refl
option_or-none (Some x) = refl

-- what a map found is the image of what was there
pub map-some : {A B : Type 0} (f : A → B) (o : Option A) (y : B) → option_map f o ≡ Some y → (x : A) × (o ≡ Some x) × (y ≡ f x)
map-some f None y e = absurd (cc)
map-some f (Some x) y e = (x, refl, sym (same_Some (f x) y e))

-- a map finds where something is there
pub map-there : {A B : Type 0} (f : A → B) (o : Option A) → is_some (option_map f o) ≡ is_some o
map-there f None = refl
map-there f (Some x) = refl

-- and a mapped value is there where the value is
pub IsSome-mapped : {A B : Type 0} (f : A → B) (o : Option A) → IsSome (option_map f o) ↔ IsSome o
IsSome-mapped f None = (λ h. h, λ h. h)
IsSome-mapped f (Some x) = (λ h. refl, λ h. refl)

-- two steps that found something
pub bind-some : {A B : Type 0} (o : Option A) (f : A → Option B) (y : B) → (o >>= f) ≡ Some y → (x : A) × (o ≡ Some x) × (f x ≡ Some y)
bind-some None f y e = absurd (cc)
bind-some (Some x) f y e = (x, refl, e)
