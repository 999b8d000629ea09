-- The splits of what a split makes are settled with it, so that its guard looks at the same ones wherever it stands.
use Rattle.std.proofs.Common.{◌≡◌, ℕ, ◌&&◌, Bool, true, false, ◌||◌, List, [], ◌∷◌, ◌++◌, reverse, refl, sym, ap, ◌∙◌, subst, inl, inr}
use Rattle.std.specs.Prelude.{◌⊎◌, if◌then◌else◌}
use Rattle.std.specs.List.{list_any}
use Rattle.std.proofs.lemmas.List.{reverse-reverse}
use Rattle.meaning.specs.Names.{same_name, is_among}
use Rattle.meaning.proofs.Cases.{same_name_is}
use Rattle.sched.specs.declared.schedule.Split.{Split}
use Rattle.sched.specs.declared.numbers.Numbers.{Numbers}
use Rattle.sched.specs.Standing.{overruns, is_half, is_overrun, cuts_of, cuts_by_variable}
use Rattle.sched.proofs.Leading.{In, in_left, in_right, in_append}
use Rattle.sched.proofs.Closing.{IsApart}
use Rattle.sched.proofs.Rooting.{all_at, among_left, among_right, among_first, among_second, AreApart}
use Rattle.sched.proofs.Visiting.{in_reverse}

-- ---- which splits are settled together

cuts_in : (cs : List Split) (names : List (List ℕ)) (c : Split) → In c (cuts_of cs names) → In c cs
cuts_in [] names c m = m
cuts_in (h ∷ cs) names c m = of (is_among names h.whole) m (λ k. cuts_in cs (names ++ h.outer ∷ h.inner ∷ []) c k) (λ k. cuts_in cs names c k)
  where
    of : (v : Bool) → In c (if v then h ∷ cuts_of cs (names ++ h.outer ∷ h.inner ∷ []) else cuts_of cs names) → (In c (cuts_of cs (names ++ h.outer ∷ h.inner ∷ [])) → In c cs) →
        (In c (cuts_of cs names) → In c cs) → In c (h ∷ cs)
    of true (inl e) one two = inl e
    of true (inr k) one two = inr (one k)
    of false k one two = inr (two k)

-- a split of one of the names
named_in : (cs : List Split) (names : List (List ℕ)) (d : Split) → In d cs → is_among names d.whole ≡ true → In d (cuts_of cs names)
named_in [] names d m e = absurd m
named_in (h ∷ cs) names d m e =
    of (is_among names h.whole) refl m (λ k. named_in cs (names ++ h.outer ∷ h.inner ∷ []) d k (among_left names (h.outer ∷ h.inner ∷ []) d.whole e)) (λ k. named_in cs names d k e)
  where
    of : (v : Bool) → is_among names h.whole ≡ v → In d (h ∷ cs) → (In d cs → In d (cuts_of cs (names ++ h.outer ∷ h.inner ∷ []))) → (In d cs → In d (cuts_of cs names)) →
        In d (if v then h ∷ cuts_of cs (names ++ h.outer ∷ h.inner ∷ []) else cuts_of cs names)
    of true t (inl same) one two = inl same
    of true t (inr k) one two = inr (one k)
    of false t (inl same) one two = absurd (let clash : true ≡ false = sym e ∙ ap (λ (g : Split). is_among names g.whole) same ∙ t in cc clash)
    of false t (inr k) one two = two k

-- a half of the split has the name
half_is : (c : Split) (x : List ℕ) → is_half c x ≡ true → (c.outer ≡ x) ⊎ (c.inner ≡ x)
half_is c x e = of (same_name c.outer x) refl e
  where
    of : (v : Bool) → same_name c.outer x ≡ v → (v || same_name c.inner x) ≡ true → (c.outer ≡ x) ⊎ (c.inner ≡ x)
    of true h k = inl (same_name_is c.outer x h)
    of false h k = inr (same_name_is c.inner x k)

half_among : (c : Split) (names : List (List ℕ)) (x : List ℕ) → (c.outer ≡ x) ⊎ (c.inner ≡ x) → is_among (names ++ c.outer ∷ c.inner ∷ []) x ≡ true
half_among c names x (inl e) = subst (λ y. is_among (names ++ c.outer ∷ c.inner ∷ []) y ≡ true) e (among_right names (c.outer ∷ c.inner ∷ []) c.outer (among_first c.outer (c.inner ∷ [])))
half_among c names x (inr e) = subst (λ y. is_among (names ++ c.outer ∷ c.inner ∷ []) y ≡ true) e (among_right names (c.outer ∷ c.inner ∷ []) c.inner (among_second c.outer c.inner))

-- a later split makes nothing that was split before
no_half : (c h : Split) → IsApart c h → (c.outer ≡ h.whole) ⊎ (c.inner ≡ h.whole) → ⊥
no_half c h apart (inl e) = apart.outer (sym e)
no_half c h apart (inr e) = apart.inner (sym e)

half_follows : (cs : List Split) (names : List (List ℕ)) (c d : Split) → AreApart cs → In c (cuts_of cs names) → In d cs → (c.outer ≡ d.whole) ⊎ (c.inner ≡ d.whole) → In d (cuts_of cs names)
half_follows [] names c d a m n half = absurd n
half_follows (h ∷ cs) names c d a m n half =
    of (is_among names h.whole) m n (λ k j. half_follows cs (names ++ h.outer ∷ h.inner ∷ []) c d a.3 k j half) (λ k j. half_follows cs names c d a.3 k j half)
  where
    later : In c cs → d ≡ h → ⊥
    later k same = no_half c h (all_at (λ y. IsApart y h) cs c a.2 k) (subst (λ (g : Split). (c.outer ≡ g.whole) ⊎ (c.inner ≡ g.whole)) same half)

    of : (v : Bool) → In c (if v then h ∷ cuts_of cs (names ++ h.outer ∷ h.inner ∷ []) else cuts_of cs names) → In d (h ∷ cs) →
        (In c (cuts_of cs (names ++ h.outer ∷ h.inner ∷ [])) → In d cs → In d (cuts_of cs (names ++ h.outer ∷ h.inner ∷ []))) → (In c (cuts_of cs names) → In d cs → In d (cuts_of cs names)) →
        In d (if v then h ∷ cuts_of cs (names ++ h.outer ∷ h.inner ∷ []) else cuts_of cs names)
    of true (inl first) (inl second) one two = inl second
    of true (inl first) (inr j) one two =
        inr (named_in cs (names ++ h.outer ∷ h.inner ∷ []) d j (half_among h names d.whole (subst (λ (g : Split). (g.outer ≡ d.whole) ⊎ (g.inner ≡ d.whole)) first half)))
    of true (inr k) (inl second) one two = inl second
    of true (inr k) (inr j) one two = inr (one k j)
    of false k (inl second) one two = absurd (later (cuts_in cs names c k) second)
    of false k (inr j) one two = two k j

reverse_in : {A : Type 0} (x : A) (xs : List A) → In x (reverse xs) → In x xs
reverse_in x xs m = subst (In x) (reverse-reverse xs) (in_reverse x (reverse xs) m)

pub by_variable_in : (cs : List Split) (xs : List (List ℕ)) (c : Split) → In c (cuts_by_variable cs xs) → In c cs
by_variable_in cs [] c m = absurd m
by_variable_in cs (x ∷ xs) c m = of (in_append c (reverse (cuts_of cs (x ∷ []))) (cuts_by_variable cs xs) m) (λ k. by_variable_in cs xs c k)
  where
    of : In c (reverse (cuts_of cs (x ∷ []))) ⊎ In c (cuts_by_variable cs xs) → (In c (cuts_by_variable cs xs) → In c cs) → In c cs
    of (inl k) rest = cuts_in cs (x ∷ []) c (reverse_in c (cuts_of cs (x ∷ [])) k)
    of (inr k) rest = rest k

by_variable_follows : (cs : List Split) (xs : List (List ℕ)) (c d : Split) → AreApart cs → In c (cuts_by_variable cs xs) → In d cs → (c.outer ≡ d.whole) ⊎ (c.inner ≡ d.whole) →
    In d (cuts_by_variable cs xs)
by_variable_follows cs [] c d a m n half = absurd m
by_variable_follows cs (x ∷ xs) c d a m n half =
    of (in_append c (reverse (cuts_of cs (x ∷ []))) (cuts_by_variable cs xs) m) (λ k. by_variable_follows cs xs c d a k n half)
  where
    of : In c (reverse (cuts_of cs (x ∷ []))) ⊎ In c (cuts_by_variable cs xs) → (In c (cuts_by_variable cs xs) → In d (cuts_by_variable cs xs)) →
        In d (reverse (cuts_of cs (x ∷ [])) ++ cuts_by_variable cs xs)
    of (inl k) rest =
        in_left d (reverse (cuts_of cs (x ∷ []))) (cuts_by_variable cs xs)
        (in_reverse d (cuts_of cs (x ∷ [])) (half_follows cs (x ∷ []) c d a (reverse_in c (cuts_of cs (x ∷ [])) k) n half))
    of (inr k) rest = in_right d (reverse (cuts_of cs (x ∷ []))) (cuts_by_variable cs xs) (rest k)

-- ---- guards

any_in : (test : Split → Bool) (cs : List Split) (d : Split) → In d cs → test d ≡ true → list_any test cs ≡ true
any_in test [] d m e = absurd m
any_in test (c ∷ cs) d (inl same) e = ap (λ v. v || list_any test cs) (sym (ap test same) ∙ e)
any_in test (c ∷ cs) d (inr m) e = of (test c) (any_in test cs d m e)
  where
    of : (v : Bool) → list_any test cs ≡ true → (v || list_any test cs) ≡ true
    of true k = refl
    of false k = k

in_any : (test : Split → Bool) (cs : List Split) → list_any test cs ≡ true → (d : Split) × In d cs × (test d ≡ true)
in_any test [] e = absurd (cc e)
in_any test (c ∷ cs) e = of (test c) refl e (λ k. in_any test cs k)
  where
    of : (v : Bool) → test c ≡ v → (v || list_any test cs) ≡ true → (list_any test cs ≡ true → (d : Split) × In d cs × (test d ≡ true)) → (d : Split) × In d (c ∷ cs) × (test d ≡ true)
    of true h k rest = (c, inl refl, h)
    of false h k rest = let m = rest k in (m.0, inr m.1, m.2)

both_true : (a b : Bool) → (a && b) ≡ true → a ≡ true
both_true true b e = refl
both_true false b e = absurd (cc e)

-- a split that makes no loop that is overrun, among those that are settled with it, makes none
pub overrun_nowhere : (rs : List Numbers) (cs : List Split) (xs : List (List ℕ)) (c : Split) → AreApart cs → In c (cuts_by_variable cs xs) → is_overrun rs (cuts_by_variable cs xs) c ≡ false →
    is_overrun rs cs c ≡ false
overrun_nowhere rs cs xs c a m e = of (is_overrun rs cs c) refl
  where
    of : (v : Bool) → is_overrun rs cs c ≡ v → is_overrun rs cs c ≡ false
    of false h = h
    of true h =
        let found = in_any (λ d. is_half c d.whole && overruns rs d) cs h in
        let half = half_is c found.0.whole (both_true (is_half c found.0.whole) (overruns rs found.0) found.2) in
        let there = by_variable_follows cs xs c found.0 a m found.1 half in
        absurd (let clash : true ≡ false = sym (any_in (λ d. is_half c d.whole && overruns rs d) (cuts_by_variable cs xs) found.0 there found.2) ∙ e in cc clash)
