-- Loops that are taken, and factors of their symbols.
use Rattle.std.proofs.Common.{◌≡◌, ℕ, ◌-◌, ◌<◌, ◌≤◌, length, take, drop, get_or, List, [], ◌∷◌, ◌++◌, Bool, true, false, Option, Some, None, refl, sym, ap, ◌∙◌, arith}
use Rattle.std.proofs.lemmas.Int.{ints, to_z-of_z}
use Rattle.std.specs.Prelude.{◌&&◌, if◌then◌else◌, ℤ, pos, ◌≤ℤ◌, int_le, flat_map}
use Rattle.std.specs.Option.{option_map}
use Rattle.std.specs.Ordering.{int_eq}
use Rattle.std.proofs.lemmas.Bool.{eqb-true, eq-eqb}
use Rattle.std.proofs.lemmas.Bool.Decides.{same_from_decides, Decides-int_eq}
use lib.Dec.{eqb}
use mir.Syntax.{w128}
use mir.Val.{SFits, of_z, to_z}
use Rattle.lin.specs.Forms.{Form, factor_of}
use Rattle.lin.specs.declared.span.Span1.{Span1}
use Rattle.soundness.specs.Obligations.{form_has}
use Rattle.plan.specs.Semantics.Setting.{or_else}
use Rattle.plan.specs.declared.stmt.Pick.TheVariants.{Min, Max}
use Rattle.tails.proofs.Joined.{first_and}
use Rattle.tails.specs.Moves.{are_blocks, first_naming, lower_factor, is_positive, below, above}

at_least : (a b : ℤ) → int_le a b ≡ true → a ≤ℤ b
at_least a b h = grind (ints, arith)

first_true : (a b : Bool) → (a && b) ≡ true → a ≡ true
first_true true b h = refl
first_true false b h = h

pub blocks_count : (exact : Bool) (shows : Form → Form → Bool) (f : Form) (n : ℤ) (us : List Form) → are_blocks exact shows f n us ≡ true → pos 1 ≤ℤ n
blocks_count exact shows f n us h = at_least (pos 1) n (first_true (is_positive n) _ h)

naming_case : (b : Bool) (f : Form) (o more : Option Form) → (if b then Some f else or_else o more) ≡ or_else (if b then Some f else o) more
naming_case true f o more = refl
naming_case false f o more = refl

first_append : (i : ℕ) (xs ys : List Form) → first_naming i (xs ++ ys) ≡ or_else (first_naming i xs) (first_naming i ys)
first_append i [] ys = refl
first_append i (x ∷ xs) ys = ap (λ o. if form_has i x then Some x else o) (first_append i xs ys) ∙ naming_case (form_has i x) x (first_naming i xs) (first_naming i ys)

mapped_here : (o more : Option Form) (i : ℕ) (n : ℤ) → Some n ≡ option_map (λ (f : Form). factor_of f.terms i) o → Some n ≡ option_map (λ (f : Form). factor_of f.terms i) (or_else o more)
mapped_here None more i n h = absurd cc
mapped_here (Some f) more i n h = h

mapped_later : (o more : Option Form) (i : ℕ) → None ≡ option_map (λ (f : Form). factor_of f.terms i) o → or_else o more ≡ more
mapped_later None more i h = refl
mapped_later (Some f) more i h = absurd cc

pub factor_here : (i : ℕ) (x : Span1) (xs : List Span1) (n : ℤ) → Some n ≡ option_map (λ (f : Form). factor_of f.terms i) (first_naming i x.lower) → Some n ≡ lower_factor i (x ∷ xs)
factor_here i x xs n h =
    mapped_here (first_naming i x.lower) (first_naming i (flat_map (λ (y : Span1). y.lower) xs)) i n h
    ∙ ap (option_map (λ (f : Form). factor_of f.terms i)) (sym (first_append i x.lower (flat_map (λ (y : Span1). y.lower) xs)))

pub factor_later : (i : ℕ) (x : Span1) (xs : List Span1) → None ≡ option_map (λ (f : Form). factor_of f.terms i) (first_naming i x.lower) → lower_factor i (x ∷ xs) ≡ lower_factor i xs
factor_later i x xs h =
    ap (option_map (λ (f : Form). factor_of f.terms i))
    (first_append i x.lower (flat_map (λ (y : Span1). y.lower) xs) ∙ mapped_later (first_naming i x.lower) (first_naming i (flat_map (λ (y : Span1). y.lower) xs)) i h)

-- the first of some forms is enough for the smallest of them
pub first_taken : (fs : List Form) → 0 < length fs → take 1 fs ≡ below false (λ a b. false) Min fs
first_taken [] h = absurd (omega arith)
first_taken (f ∷ fs) h = refl

pub none_taken : (fs : List Form) → length fs < 1 → fs ≡ below false (λ a b. false) Min fs
none_taken [] h = refl
none_taken (f ∷ fs) h = absurd (omega arith)

pub largest_is_first : (fs : List Form) → above false (λ a b. false) Max fs ≡ below false (λ a b. false) Min fs
largest_is_first [] = refl
largest_is_first (f ∷ fs) = refl

-- tests of numbers that are told otherwise
pub both_le : (a b c d : ℤ) → a ≡ c → b ≡ d → int_le a b ≡ int_le c d
both_le a b c d e f = ap (λ x. int_le x b) e ∙ ap (int_le c) f

pub both_eq : (x y a b : ℤ) → SFits w128 x → SFits w128 y → x ≡ a → y ≡ b → eqb (of_z w128 x) (of_z w128 y) ≡ int_eq a b
both_eq x y a b p q e f =
    same_from_decides (eqb (of_z w128 x) (of_z w128 y)) (int_eq x y)
    (λ h. sym (to_z-of_z w128 x p) ∙ ap (to_z w128) (eqb-true (of_z w128 x) (of_z w128 y) h) ∙ to_z-of_z w128 y q, λ h. eq-eqb (of_z w128 x) (of_z w128 y) (ap (of_z w128) h))
    (Decides-int_eq x y)
    ∙ ap (λ z. int_eq z y) e ∙ ap (int_eq a) f

pub factor_behind : (i : ℕ) (xs : List Span1) (x : Span1) (r : Option ℤ) → 1 ≤ length xs → x ≡ get_or xs 0 x → None ≡ option_map (λ (f : Form). factor_of f.terms i) (first_naming i x.lower) →
    r ≡ lower_factor i (take (length xs - 1) (drop 1 xs)) → r ≡ lower_factor i xs
factor_behind i xs x r h is none by = by ∙ sym (ap (lower_factor i) (first_and xs x h is) ∙ factor_later i x (take (length xs - 1) (drop 1 xs)) none)
