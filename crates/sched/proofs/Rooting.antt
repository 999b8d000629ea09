-- The splits of a function's variables in the order in which they are settled, and that every loop's name stands inside all loops.
use Rattle.std.proofs.Common.{◌≡◌, ℕ, ◌+◌, ◌<◌, ◌≤◌, Bool, true, false, ◌||◌, List, [], ◌∷◌, ◌++◌, reverse, refl, sym, ap, ◌∙◌, subst, inl, inr, arith}
use Rattle.std.specs.Prelude.{◌⊎◌, if◌then◌else◌}
use Rattle.std.specs.List.{AllByRecursion}
use Rattle.std.proofs.lemmas.List.{reverse-append, reverse-reverse}
use Rattle.lin.proofs.TermLemmas.{all_weaker}
use Rattle.meaning.specs.Names.{same_name, is_among}
use Rattle.meaning.proofs.Cases.{name_same, same_name_is}
use Rattle.sched.specs.declared.schedule.Split.{Split}
use Rattle.sched.specs.declared.placing.Loop.{Loop}
use Rattle.sched.specs.Standing.{StandingText, cuts_of, cuts_by_variable}
use Rattle.sched.specs.Skeleton.{BodyText, is_missing, kept_from}
use Rattle.sched.proofs.Leading.{In}
use Rattle.sched.proofs.Standings.{Stands}
use Rattle.sched.proofs.Passing.{IsClosed}
use Rattle.sched.proofs.Closing.{IsApart, AreOrdered}
use Rattle.sched.proofs.Looping.{all_last}

-- ---- lists

pub all_both : {A : Type 0} (P : A → Type 0) (xs ys : List A) → AllByRecursion P xs → AllByRecursion P ys → AllByRecursion P (xs ++ ys)
all_both P [] ys h k = k
all_both P (x ∷ xs) ys h k = (h.0, all_both P xs ys h.1 k)

pub all_two : {A : Type 0} (P Q R : A → Type 0) → ((x : A) → P x → Q x → R x) → (xs : List A) → AllByRecursion P xs → AllByRecursion Q xs → AllByRecursion R xs
all_two P Q R f [] h k = tt
all_two P Q R f (x ∷ xs) h k = (f x h.0 k.0, all_two P Q R f xs h.1 k.1)

pub all_at : {A : Type 0} (P : A → Type 0) (xs : List A) (x : A) → AllByRecursion P xs → In x xs → P x
all_at P [] x a m = absurd m
all_at P (y ∷ ys) x a (inl e) = subst P (sym e) a.0
all_at P (y ∷ ys) x a (inr m) = all_at P ys x a.1 m

reverse_next : {A : Type 0} (x : A) (xs : List A) → reverse (x ∷ xs) ≡ reverse xs ++ x ∷ []
reverse_next x xs = reverse-append (x ∷ []) xs

pub all_reverse : {A : Type 0} (P : A → Type 0) (xs : List A) → AllByRecursion P xs → AllByRecursion P (reverse xs)
all_reverse P [] a = tt
all_reverse P (x ∷ xs) a = subst (AllByRecursion P) (sym (reverse_next x xs)) (all_last P (reverse xs) x (all_reverse P xs a.1) a.0)

pub reverse_all : {A : Type 0} (P : A → Type 0) (xs : List A) → AllByRecursion P (reverse xs) → AllByRecursion P xs
reverse_all P xs a = subst (AllByRecursion P) (reverse-reverse xs) (all_reverse P (reverse xs) a)

pub among_all : (P : List ℕ → Type 0) (names : List (List ℕ)) (x : List ℕ) → AllByRecursion P names → is_among names x ≡ true → P x
among_all P [] x a e = absurd (cc e)
among_all P (y ∷ ys) x a e = of (same_name y x) refl e (λ k. among_all P ys x a.1 k)
  where
    of : (v : Bool) → same_name y x ≡ v → (v || is_among ys x) ≡ true → (is_among ys x ≡ true → P x) → P x
    of true h k rest = subst P (same_name_is y x h) a.0
    of false h k rest = rest k

pub among_left : (xs ys : List (List ℕ)) (x : List ℕ) → is_among xs x ≡ true → is_among (xs ++ ys) x ≡ true
among_left [] ys x e = absurd (cc e)
among_left (y ∷ xs) ys x e = of (same_name y x) e (λ k. among_left xs ys x k)
  where
    of : (v : Bool) → (v || is_among xs x) ≡ true → (is_among xs x ≡ true → is_among (xs ++ ys) x ≡ true) → (v || is_among (xs ++ ys) x) ≡ true
    of true k rest = refl
    of false k rest = rest k

pub among_right : (xs ys : List (List ℕ)) (x : List ℕ) → is_among ys x ≡ true → is_among (xs ++ ys) x ≡ true
among_right [] ys x e = e
among_right (y ∷ xs) ys x e = of (same_name y x) (among_right xs ys x e)
  where
    of : (v : Bool) → is_among (xs ++ ys) x ≡ true → (v || is_among (xs ++ ys) x) ≡ true
    of true k = refl
    of false k = k

pub among_first : (x : List ℕ) (xs : List (List ℕ)) → is_among (x ∷ xs) x ≡ true
among_first x xs = let same = name_same x x refl in ap (λ v. v || is_among xs x) same

pub among_second : (y x : List ℕ) → is_among (y ∷ x ∷ []) x ≡ true
among_second y x = of (same_name y x) (among_first x [])
  where
    of : (v : Bool) → is_among (x ∷ []) x ≡ true → (v || is_among (x ∷ []) x) ≡ true
    of true k = refl
    of false k = k

-- ---- the splits of some names

-- a split makes loops of the same dimension
pub record IsAlong (dim : List ℕ → ℕ) (c : Split) : Type 0 where
  pub outer : dim c.outer ≡ dim c.whole
  pub inner : dim c.inner ≡ dim c.whole

-- in the order of the text: nothing that a later split splits or makes was split before
abbrev pub AreApart : List Split → Type 0
AreApart [] = Unit {0}
AreApart (d ∷ cs) = (d.whole ≡ d.outer → ⊥) × (d.whole ≡ d.inner → ⊥) × AllByRecursion (λ c. IsApart c d) cs × AreApart cs

pub all_cuts_of : (P : Split → Type 0) (cs : List Split) (names : List (List ℕ)) → AllByRecursion P cs → AllByRecursion P (cuts_of cs names)
all_cuts_of P [] names a = tt
all_cuts_of P (c ∷ cs) names a = of (is_among names c.whole) (all_cuts_of P cs (names ++ c.outer ∷ c.inner ∷ []) a.1) (all_cuts_of P cs names a.1)
  where
    of : (v : Bool) → AllByRecursion P (cuts_of cs (names ++ c.outer ∷ c.inner ∷ [])) → AllByRecursion P (cuts_of cs names) →
        AllByRecursion P (if v then c ∷ cuts_of cs (names ++ c.outer ∷ c.inner ∷ []) else cuts_of cs names)
    of true k m = (a.0, k)
    of false k m = m

apart_cuts_of : (cs : List Split) (names : List (List ℕ)) → AreApart cs → AreApart (cuts_of cs names)
apart_cuts_of [] names a = tt
apart_cuts_of (c ∷ cs) names a = of (is_among names c.whole) (apart_cuts_of cs (names ++ c.outer ∷ c.inner ∷ []) a.3) (apart_cuts_of cs names a.3)
  where
    of : (v : Bool) → AreApart (cuts_of cs (names ++ c.outer ∷ c.inner ∷ [])) → AreApart (cuts_of cs names) →
        AreApart (if v then c ∷ cuts_of cs (names ++ c.outer ∷ c.inner ∷ []) else cuts_of cs names)
    of true k m = (a.0, a.1, all_cuts_of (λ d. IsApart d c) cs (names ++ c.outer ∷ c.inner ∷ []) a.2, k)
    of false k m = m

module _ (dim : List ℕ → ℕ) (D : ℕ) where
  named_along : (c : Split) (names : List (List ℕ)) → AllByRecursion (λ x. dim x ≡ D) names → is_among names c.whole ≡ true → IsAlong dim c →
      AllByRecursion (λ x. dim x ≡ D) (names ++ c.outer ∷ c.inner ∷ [])
  named_along c names a e h =
      let here = among_all (λ x. dim x ≡ D) names c.whole a e in
      all_both (λ x. dim x ≡ D) names (c.outer ∷ c.inner ∷ []) a (h.outer ∙ here, (h.inner ∙ here, tt))

  dims_of : (cs : List Split) (names : List (List ℕ)) → AllByRecursion (λ x. dim x ≡ D) names → AllByRecursion (IsAlong dim) cs → AllByRecursion (λ c. dim c.whole ≡ D) (cuts_of cs names)
  dims_of [] names a h = tt
  dims_of (c ∷ cs) names a h = of (is_among names c.whole) refl (λ k. dims_of cs (names ++ c.outer ∷ c.inner ∷ []) k h.1) (dims_of cs names a h.1)
    where
      of : (v : Bool) → is_among names c.whole ≡ v → (AllByRecursion (λ x. dim x ≡ D) (names ++ c.outer ∷ c.inner ∷ []) →
          AllByRecursion (λ c. dim c.whole ≡ D) (cuts_of cs (names ++ c.outer ∷ c.inner ∷ []))) →
          AllByRecursion (λ c. dim c.whole ≡ D) (cuts_of cs names) → AllByRecursion (λ c. dim c.whole ≡ D) (if v then c ∷ cuts_of cs (names ++ c.outer ∷ c.inner ∷ []) else cuts_of cs names)
      of true e k m = (among_all (λ x. dim x ≡ D) names c.whole a e, k (named_along c names a e h.0))
      of false e k m = m

-- ---- order

ordered_append : (xs ys : List Split) → AreOrdered xs → AreOrdered ys → AllByRecursion (λ c. AllByRecursion (IsApart c) ys) xs → AreOrdered (xs ++ ys)
ordered_append [] ys h k a = k
ordered_append (x ∷ xs) ys h k a = (h.0, h.1, all_both (IsApart x) xs ys h.2 a.0, ordered_append xs ys h.3 k a.1)

ordered_reverse : (cs : List Split) → AreApart cs → AreOrdered (reverse cs)
ordered_reverse [] a = tt
ordered_reverse (d ∷ cs) a =
    subst AreOrdered (sym (reverse_next d cs))
    (ordered_append (reverse cs) (d ∷ []) (ordered_reverse cs a.3) (a.0, a.1, tt, tt)
    (all_weaker (λ c. IsApart c d) (λ c. AllByRecursion (IsApart c) (d ∷ [])) (λ c h. (h, tt)) (reverse cs) (all_reverse (λ c. IsApart c d) cs a.2)))

pub all_by_variable : (P : Split → Type 0) (cs : List Split) (xs : List (List ℕ)) → AllByRecursion P cs → AllByRecursion P (cuts_by_variable cs xs)
all_by_variable P cs [] a = tt
all_by_variable P cs (x ∷ xs) a = all_both P (reverse (cuts_of cs (x ∷ []))) (cuts_by_variable cs xs) (all_reverse P (cuts_of cs (x ∷ [])) (all_cuts_of P cs (x ∷ []) a)) (all_by_variable P cs xs a)

-- each variable has a higher dimension than those before it
abbrev pub AreRising : (List ℕ → ℕ) → List (List ℕ) → Type 0
AreRising dim [] = Unit {0}
AreRising dim (x ∷ xs) = AllByRecursion (λ y. dim x < dim y) xs × AreRising dim xs

module _ (dim : List ℕ → ℕ) (cs : List Split) (along : AllByRecursion (IsAlong dim) cs) where
  higher : (n : ℕ) (xs : List (List ℕ)) → AllByRecursion (λ y. n < dim y) xs → AllByRecursion (λ d. n < dim d.whole) (cuts_by_variable cs xs)
  higher n [] a = tt
  higher n (x ∷ xs) a =
      let lt = a.0 in
      all_both (λ d. n < dim d.whole) (reverse (cuts_of cs (x ∷ []))) (cuts_by_variable cs xs)
      (all_reverse (λ d. n < dim d.whole) (cuts_of cs (x ∷ []))
      (all_weaker (λ d. dim d.whole ≡ dim x) (λ d. n < dim d.whole) (λ d e. omega (arith, e, lt)) (cuts_of cs (x ∷ [])) (dims_of dim (dim x) cs (x ∷ []) (refl, tt) along)))
      (higher n xs a.1)

  other : (n : ℕ) (c d : Split) → dim c.whole ≡ n → IsAlong dim c → n < dim d.whole → IsApart c d
  other n c d is h lt = record {
    whole = (λ e. let same = ap dim e in omega (arith, same, is, lt));
    outer = (λ e. let same = ap dim e in let o = h.outer in omega (arith, same, o, is, lt));
    inner = (λ e. let same = ap dim e in let o = h.inner in omega (arith, same, o, is, lt));
  }

  pub ordered_by_variable : (xs : List (List ℕ)) → AreRising dim xs → AreApart cs → AreOrdered (cuts_by_variable cs xs)
  ordered_by_variable [] rising apart = tt
  ordered_by_variable (x ∷ xs) rising apart =
      ordered_append (reverse (cuts_of cs (x ∷ []))) (cuts_by_variable cs xs) (ordered_reverse (cuts_of cs (x ∷ [])) (apart_cuts_of cs (x ∷ []) apart)) (ordered_by_variable xs rising.1 apart)
      (all_reverse (λ c. AllByRecursion (IsApart c) (cuts_by_variable cs xs)) (cuts_of cs (x ∷ []))
      (all_two (λ c. dim c.whole ≡ dim x) (IsAlong dim) (λ c. AllByRecursion (IsApart c) (cuts_by_variable cs xs))
      (λ c is h. all_weaker (λ d. dim x < dim d.whole) (IsApart c) (λ d lt. other (dim x) c d is h lt) (cuts_by_variable cs xs) (higher (dim x) xs rising.0))
      (cuts_of cs (x ∷ [])) (dims_of dim (dim x) cs (x ∷ []) (refl, tt) along) (all_cuts_of (IsAlong dim) cs (x ∷ []) along)))

-- ---- the variables of a definition

-- the variables have these dimensions, of which the first is this one
abbrev pub HaveDimensions : (List ℕ → ℕ) → ℕ → List (List ℕ) → Type 0
HaveDimensions dim d [] = Unit {0}
HaveDimensions dim d (x ∷ xs) = (dim x ≡ d) × HaveDimensions dim (d + 1) xs

module _ (dim : List ℕ → ℕ) (b : BodyText) where
  kept_above : (d : ℕ) (xs : List (List ℕ)) → HaveDimensions dim d xs → AllByRecursion (λ y. d ≤ dim y) (kept_from b d xs)
  kept_above d [] h = tt
  kept_above d (x ∷ xs) h =
      let same = h.0 in
      of (is_missing b d) (all_weaker (λ y. d + 1 ≤ dim y) (λ y. d ≤ dim y) (λ y le. omega (arith, le)) (kept_from b (d + 1) xs) (kept_above (d + 1) xs h.1)) (omega (arith, same))
    where
      of : (v : Bool) → AllByRecursion (λ y. d ≤ dim y) (kept_from b (d + 1) xs) → d ≤ dim x → AllByRecursion (λ y. d ≤ dim y) (if v then kept_from b (d + 1) xs else x ∷ kept_from b (d + 1) xs)
      of true k le = k
      of false k le = (le, k)

  pub kept_rise : (d : ℕ) (xs : List (List ℕ)) → HaveDimensions dim d xs → AreRising dim (kept_from b d xs)
  kept_rise d [] h = tt
  kept_rise d (x ∷ xs) h = of (is_missing b d) (kept_rise (d + 1) xs h.1)
    where
      of : (v : Bool) → AreRising dim (kept_from b (d + 1) xs) → AreRising dim (if v then kept_from b (d + 1) xs else x ∷ kept_from b (d + 1) xs)
      of true k = k
      of false k = (let same = h.0 in all_weaker (λ y. d + 1 ≤ dim y) (λ y. dim x < dim y) (λ y le. omega (arith, le, same)) (kept_from b (d + 1) xs) (kept_above (d + 1) xs h.1), k)

  -- and what holds of all variables whose dimensions are not missing holds of them
  pub kept_all : (P : List ℕ → Type 0) (d : ℕ) (xs : List (List ℕ)) → HaveDimensions dim d xs → AllByRecursion (λ y. is_missing b (dim y) ≡ false → P y) xs → AllByRecursion P (kept_from b d xs)
  kept_all P d [] h a = tt
  kept_all P d (x ∷ xs) h a = of (is_missing b d) refl (kept_all P (d + 1) xs h.1 a.1)
    where
      of : (v : Bool) → is_missing b d ≡ v → AllByRecursion P (kept_from b (d + 1) xs) → AllByRecursion P (if v then kept_from b (d + 1) xs else x ∷ kept_from b (d + 1) xs)
      of true e k = k
      of false e k = (a.0 (ap (is_missing b) h.0 ∙ e), k)

-- ---- names that stand

-- a loop has the name, or one of these splits is of it
abbrev pub IsHeld : List Loop → List Split → List ℕ → Type 0
IsHeld ls cs x = ((l : Loop) × In l ls × (l.name ≡ x)) ⊎ ((c : Split) × In c cs × (c.whole ≡ x))

-- what a split makes is a loop, or is split later
abbrev pub AreHeld : List Loop → List Split → Type 0
AreHeld ls [] = Unit {0}
AreHeld ls (c ∷ cs) = IsHeld ls cs c.outer × IsHeld ls cs c.inner × AreHeld ls cs

module _ (dim : List ℕ → ℕ) (D : ℕ) (ls : List Loop) (st : StandingText) (loops : (l : Loop) → In l ls → dim l.name ≡ D → Stands st.known l.name) where
  by_loop : (x : List ℕ) → dim x ≡ D → (l : Loop) × In l ls × (l.name ≡ x) → Stands st.known x
  by_loop x is h = subst (Stands st.known) h.2 (loops h.0 h.1 (ap dim h.2 ∙ is))

  -- of the names that these splits begin with and make, each stands
  pub names_stand : (cs : List Split) (names : List (List ℕ)) → AllByRecursion (λ x. dim x ≡ D) names → AllByRecursion (IsAlong dim) cs → AreHeld ls cs →
      AllByRecursion (IsClosed st) (cuts_of cs names) →
      (x : List ℕ) → is_among names x ≡ true → IsHeld ls cs x → Stands st.known x
  names_stand [] names a along held closed x e (inl h) = by_loop x (among_all (λ y. dim y ≡ D) names x a e) h
  names_stand [] names a along held closed x e (inr h) = absurd h.1
  names_stand (c ∷ cs) names a along held closed x e h =
      of (is_among names c.whole) refl closed h (λ k y m n. names_stand cs (names ++ c.outer ∷ c.inner ∷ []) k along.1 held.2 m y n) (λ m n. names_stand cs names a along.1 held.2 m x e n)
    where
      more : List (List ℕ)
      more = names ++ c.outer ∷ c.inner ∷ []

      here : dim x ≡ D
      here = among_all (λ y. dim y ≡ D) names x a e

      whole : is_among names c.whole ≡ true → AllByRecursion (IsClosed st) (c ∷ cuts_of cs (names ++ c.outer ∷ c.inner ∷ [])) →
          (AllByRecursion (λ x. dim x ≡ D) (names ++ c.outer ∷ c.inner ∷ []) → (y : List ℕ) → AllByRecursion (IsClosed st) (cuts_of cs (names ++ c.outer ∷ c.inner ∷ [])) → is_among
          (names ++ c.outer ∷ c.inner ∷ []) y ≡ true → IsHeld ls cs y → Stands st.known y) →
          Stands st.known c.whole
      whole t k rest =
          let dims = named_along dim D c names a t along.0 in
          let outside = rest dims c.outer k.1 (among_right names (c.outer ∷ c.inner ∷ []) c.outer (among_first c.outer (c.inner ∷ []))) held.0 in
          let inside = rest dims c.inner k.1 (among_right names (c.outer ∷ c.inner ∷ []) c.inner (among_second c.outer c.inner)) held.1 in
          k.0.joined (k.0.begun outside) inside

      of : (v : Bool) → is_among names c.whole ≡ v → AllByRecursion (IsClosed st) (if v then c ∷ cuts_of cs (names ++ c.outer ∷ c.inner ∷ []) else cuts_of cs names) → IsHeld ls (c ∷ cs) x →
          (AllByRecursion (λ x. dim x ≡ D) (names ++ c.outer ∷ c.inner ∷ []) → (y : List ℕ) → AllByRecursion (IsClosed st) (cuts_of cs (names ++ c.outer ∷ c.inner ∷ [])) → is_among
          (names ++ c.outer ∷ c.inner ∷ []) y ≡ true → IsHeld ls cs y → Stands st.known y) →
          (AllByRecursion (IsClosed st) (cuts_of cs names) → IsHeld ls cs x → Stands st.known x) → Stands st.known x
      of v t k (inl m) made kept = by_loop x here m
      of true t k (inr (d, inl same, is)) made kept = subst (Stands st.known) (ap (λ (g : Split). g.whole) (sym same) ∙ is) (whole t k made)
      of true t k (inr (d, inr m, is)) made kept = made (named_along dim D c names a t along.0) x k.1 (among_left names (c.outer ∷ c.inner ∷ []) x e) (inr (d, m, is))
      of false t k (inr (d, inl same, is)) made kept = absurd
          (let clash : is_among names c.whole ≡ true = ap (is_among names) (ap (λ (g : Split). g.whole) (sym same) ∙ is) ∙ e in let no : true ≡ false = sym clash ∙ t in cc no)
      of false t k (inr (d, inr m, is)) made kept = kept k (inr (d, m, is))
