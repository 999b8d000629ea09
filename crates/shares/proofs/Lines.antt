-- The places of a group's own line and of its first need line.
use Rattle.std.proofs.Common.{◌≡◌, ℕ, suc, ◌+◌, ◌<◌, List, [], ◌∷◌, length, get_or, drop, drop-cons, arith, ap, refl, sym, ◌∙◌, true, false, Option, Some, None}
use Rattle.std.specs.Prelude.{◌==◌}
use Rattle.std.proofs.lemmas.Bool.Decides.{nat_tests}
use Rattle.plan.specs.declared.certificate.cert.Own.{Own}
use Rattle.plan.specs.declared.certificate.cert.Need.{Need}
use Rattle.shares.specs.Made.{own_place, need_place, next_place}

head_here : (o : Own) (os : List Own) (g : ℕ) → o.group ≡ g → own_place (o ∷ os) g ≡ 0
head_here o os g e = let t : (o.group == g) ≡ true = grind (arith, nat_tests) in rw t refl

head_later : (o : Own) (os : List Own) (g : ℕ) → (o.group ≡ g → ⊥) → own_place (o ∷ os) g ≡ suc (own_place os g)
head_later o os g e = let t : (o.group == g) ≡ false = grind (arith, nat_tests) in rw t refl

pub place_here : (xs : List Own) (k : ℕ) (d : Own) (g : ℕ) → k < length xs → (get_or xs k d).group ≡ g → own_place (drop k xs) g ≡ 0
place_here xs k d g less e = ap (λ (ys : List Own). own_place ys g) (drop-cons xs k d less) ∙ head_here (get_or xs k d) (drop (suc k) xs) g e

pub place_later : (xs : List Own) (k : ℕ) (d : Own) (g : ℕ) → k < length xs → ((get_or xs k d).group ≡ g → ⊥) → own_place (drop k xs) g ≡ suc (own_place (drop (k + 1) xs) g)
place_later xs k d g less e =
    let one : suc k ≡ k + 1 = omega arith in
    ap (λ (ys : List Own). own_place ys g) (drop-cons xs k d less) ∙ head_later (get_or xs k d) (drop (suc k) xs) g e ∙ ap (λ (n : ℕ). suc (own_place (drop n xs) g)) one

pub no_place : (xs : List Own) (k g : ℕ) → length xs ≡ k → own_place (drop k xs) g ≡ 0
no_place [] k g e = rw (sym e) refl
no_place (x ∷ xs) k g e = rw (sym e) (no_place xs (length xs) g refl)

-- ---- need lines

-- a place so many lines further on
abbrev pub further : ℕ → Option ℕ → Option ℕ
further k None = None
further k (Some i) = Some (k + i)

pub further_none : (o : Option ℕ) → further 0 o ≡ o
further_none None = refl
further_none (Some i) = let e : 0 + i ≡ i = omega arith in ap (λ (n : ℕ). Some n) e

further_next : (k : ℕ) (o : Option ℕ) → further k (next_place o) ≡ further (k + 1) o
further_next k None = refl
further_next k (Some i) = let e : k + suc i ≡ k + 1 + i = omega arith in ap (λ (n : ℕ). Some n) e

need_here : (n : Need) (ns : List Need) (g : ℕ) → n.group ≡ g → need_place (n ∷ ns) g ≡ Some 0
need_here n ns g e = let t : (n.group == g) ≡ true = grind (arith, nat_tests) in rw t refl

need_later : (n : Need) (ns : List Need) (g : ℕ) → (n.group ≡ g → ⊥) → need_place (n ∷ ns) g ≡ next_place (need_place ns g)
need_later n ns g e = let t : (n.group == g) ≡ false = grind (arith, nat_tests) in rw t refl

pub found_here : (xs : List Need) (k : ℕ) (d : Need) (g : ℕ) → k < length xs → (get_or xs k d).group ≡ g → further k (need_place (drop k xs) g) ≡ Some k
found_here xs k d g less e =
    let same : k + 0 ≡ k = omega arith in
    ap (λ (ys : List Need). further k (need_place ys g)) (drop-cons xs k d less) ∙ ap (further k) (need_here (get_or xs k d) (drop (suc k) xs) g e) ∙ ap (λ (n : ℕ). Some n) same

pub found_later : (xs : List Need) (k : ℕ) (d : Need) (g : ℕ) → k < length xs → ((get_or xs k d).group ≡ g → ⊥) → further k (need_place (drop k xs) g) ≡ further (k + 1) (need_place (drop (k + 1) xs) g)
found_later xs k d g less e =
    let one : suc k ≡ k + 1 = omega arith in
    ap (λ (ys : List Need). further k (need_place ys g)) (drop-cons xs k d less)
    ∙ ap (further k) (need_later (get_or xs k d) (drop (suc k) xs) g e ∙ ap (λ (n : ℕ). next_place (need_place (drop n xs) g)) one)
    ∙ further_next k (need_place (drop (k + 1) xs) g)

pub found_none : (xs : List Need) (k g : ℕ) → length xs ≡ k → further k (need_place (drop k xs) g) ≡ None
found_none xs k g e = ap (λ (ys : List Need). further k (need_place ys g)) (none xs k e)
  where
    none : (xs : List Need) (k : ℕ) → length xs ≡ k → drop k xs ≡ []
    none [] k e = rw (sym e) refl
    none (x ∷ xs) k e = rw (sym e) (none xs (length xs) refl)
