-- Need lines that are put to their groups.
use Rattle.std.proofs.Common.{◌≡◌, ℕ, zero, suc, ◌+◌, ◌<◌, ◌≤◌, List, [], ◌∷◌, ◌++◌, length, length-append, map, true, false, arith, ap, refl, sym, ◌∙◌, subst, Some, inl, inr, Vec, Bor, Global}
use Rattle.std.specs.Prelude.{◌==◌, slice_get}
use Rattle.std.proofs.Math.ListN.{set}
use Rattle.std.proofs.lemmas.Bool.{cases_eq}
use Rattle.std.proofs.lemmas.Bool.Decides.{nat_tests}
use Rattle.std.proofs.lemmas.List.Elements.{filter-append}
use Rattle.plan.specs.declared.certificate.cert.Need.{Need}
use Rattle.shares.specs.Filed.{needs_in, AreFiled}
use Rattle.shares.proofs.Groups.{get_within, some_same, push_each}

-- the lines of a list
abbrev pub row : Vec (Bor Need) Global → List Need
row v = map (λ n. n.now) v.items

pub map_set : {A B : Type 0} (f : A → B) (xs : List A) (i : ℕ) (x : A) → map f (set xs i x) ≡ set (map f xs) i (f x)
map_set f [] i x = refl
map_set f (y ∷ ys) zero x = refl
map_set f (y ∷ ys) (suc i) x = ap (λ zs. f y ∷ zs) (map_set f ys i x)

long_set : {A : Type 0} (xs : List A) (i : ℕ) (x : A) → length (set xs i x) ≡ length xs
long_set [] i x = refl
long_set (y ∷ ys) zero x = refl
long_set (y ∷ ys) (suc i) x = ap suc (long_set ys i x)

set_here : {A : Type 0} (xs : List A) (i : ℕ) (a x : A) → slice_get (set xs i a) i ≡ Some x → x ≡ a
set_here [] i a x e = absurd (cc e)
set_here (y ∷ ys) zero a x e = sym (some_same a x e)
set_here (y ∷ ys) (suc i) a x e = set_here ys i a x e

set_there : {A : Type 0} (xs : List A) (i j : ℕ) (a x : A) → (j ≡ i → ⊥) → slice_get (set xs i a) j ≡ Some x → slice_get xs j ≡ Some x
set_there [] i j a x not e = e
set_there (y ∷ ys) zero zero a x not e = absurd (not refl)
set_there (y ∷ ys) zero (suc j) a x not e = e
set_there (y ∷ ys) (suc i) zero a x not e = e
set_there (y ∷ ys) (suc i) (suc j) a x not e = set_there ys i j a x (λ same. not (ap suc same)) e

one_in : (n : Need) (g : ℕ) → n.group ≡ g → needs_in (n ∷ []) g ≡ n ∷ []
one_in n g e = let t : (n.group == g) ≡ true = grind (arith, nat_tests) in rw t refl

none_in : (n : Need) (g : ℕ) → (n.group ≡ g → ⊥) → needs_in (n ∷ []) g ≡ []
none_in n g e = let t : (n.group == g) ≡ false = grind (arith, nat_tests) in rw t refl

with_nothing : (xs : List Need) → xs ++ [] ≡ xs
with_nothing [] = refl
with_nothing (x ∷ xs) = ap (λ (ys : List Need). x ∷ ys) (with_nothing xs)

added_here : (ns : List Need) (n : Need) (g : ℕ) → n.group ≡ g → needs_in ns g ++ n ∷ [] ≡ needs_in (ns ++ n ∷ []) g
added_here ns n g e = ap (λ (ms : List Need). needs_in ns g ++ ms) (sym (one_in n g e)) ∙ sym (filter-append (λ (m : Need). m.group == g) ns (n ∷ []))

added_there : (ns : List Need) (n : Need) (g : ℕ) → (n.group ≡ g → ⊥) → needs_in ns g ≡ needs_in (ns ++ n ∷ []) g
added_there ns n g e = sym (with_nothing (needs_in ns g)) ∙ ap (λ (ms : List Need). needs_in ns g ++ ms) (sym (none_in n g e)) ∙ sym (filter-append (λ (m : Need). m.group == g) ns (n ∷ []))

pub filed_none : (lists : List (List Need)) → lists ≡ [] → AreFiled [] 0 lists
filed_none lists e = record {
  count = ap length e;
  each = λ g xs at. let less = get_within lists g xs at in let long = ap length e in absurd (omega (arith, less, long));
}

pub filed_more : (groups : ℕ) (lists : List (List Need)) → AreFiled [] groups lists → AreFiled [] (groups + 1) (lists ++ [] ∷ [])
filed_more groups lists h = record {
  count = length-append lists ([] ∷ []) ∙ ap (λ (n : ℕ). n + 1) h.count;
  each = push_each (λ g xs. xs ≡ needs_in [] g) lists [] h.each refl;
}

-- a line is put to those of its group
pub filed_here : (groups : ℕ) (ns : List Need) (n : Need) (lists : List (List Need)) (now : List Need) → n.group < length lists → (slice_get lists n.group ≡ Some now) → AreFiled ns groups lists →
    AreFiled (ns ++ n ∷ []) groups (set lists n.group (now ++ n ∷ []))
filed_here groups ns n lists now less at h = record {
  count = long_set lists n.group (now ++ n ∷ []) ∙ h.count;
  each = λ g xs found. elim (cases_eq g n.group) [
    | inl same ↦
        let here : slice_get (set lists n.group (now ++ n ∷ [])) n.group ≡ Some xs = subst (λ (k : ℕ). slice_get (set lists n.group (now ++ n ∷ [])) k ≡ Some xs) same found in
        let is = set_here lists n.group (now ++ n ∷ []) xs here in
        let before = h.each n.group now at in
        is ∙ ap (λ (ms : List Need). ms ++ n ∷ []) before ∙ added_here ns n n.group refl ∙ ap (needs_in (ns ++ n ∷ [])) (sym same)
    | inr not ↦ h.each g xs (set_there lists n.group g (now ++ n ∷ []) xs not found) ∙ added_there ns n g (λ e. not (sym e))
  ];
}

-- a line of no group is left out
pub filed_out : (groups : ℕ) (ns : List Need) (n : Need) (lists : List (List Need)) → length lists ≤ n.group → AreFiled ns groups lists → AreFiled (ns ++ n ∷ []) groups lists
filed_out groups ns n lists past h = record {
  count = h.count;
  each = λ g xs found.
      let less = get_within lists g xs found in
      h.each g xs found ∙ added_there ns n g (λ e. omega (arith, e, less, past));
}
