-- Need lines of which some are left out, one for another that stands for it.
use Rattle.std.proofs.Common.{◌≡◌, ℕ, zero, suc, ◌+◌, ◌<◌, List, [], ◌∷◌, ◌++◌, length, map, take, drop, get_or, Option, Some, None, refl, ap, sym, ◌∙◌, subst, arith, inl, inr, Bor}
use Rattle.std.specs.Prelude.{◌⊎◌, Contains, MatchOption, slice_get, slice_set}
use Rattle.std.proofs.lemmas.List.{map-append, map-set, take-append-drop}
use Rattle.std.proofs.lemmas.List.Elements.{Contains-append_left, Contains-append_right, Contains-append_cases}
use Rattle.plan.specs.declared.certificate.cert.Need.{Need}
use Rattle.soundness.specs.Claims.{In}
use Rattle.headline.proofs.Members.{in_of, contains_of}
use Rattle.shares.specs.Repeated.{AreOuterBy, IsOfOne}

abbrev pub said : List (Bor Need) → List Need
said ls = map (λ (m : Bor Need). m.now) ls

said_parts : (ls : List (Bor Need)) (k : ℕ) → said (take k ls) ++ said (drop k ls) ≡ said ls
said_parts ls k = sym (map-append (λ (m : Bor Need). m.now) (take k ls) (drop k ls)) ∙ ap said (take-append-drop k ls)

-- a line that stands among so many behind a place
contains_behind : (ls : List (Bor Need)) (k many : ℕ) (n : Need) → Contains (said (take many (drop k ls))) n → Contains (said ls) n
contains_behind ls k many n h =
    let Has : List Need → Type 0 = λ ns. Contains ns n in
    let later : Contains (said (drop k ls)) n =
    subst Has (said_parts (drop k ls) many) (Contains-append_left (said (take many (drop k ls))) (said (drop many (drop k ls))) n h) in
    subst Has (said_parts ls k) (Contains-append_right (said (take k ls)) (said (drop k ls)) n later)

only_one : (x m : Need) (k : ℕ) → k < length (x ∷ []) → get_or (x ∷ []) k m ≡ m → x ≡ m
only_one x m zero less e = e
only_one x m (suc k) less e = absurd (omega (arith, less))

set_from : (ns : List Need) (k : ℕ) (n m : Need) → In m (slice_set ns k n) → In m ns ⊎ (m ≡ n)
set_from [] k n m h = absurd h
set_from (x ∷ xs) zero n m (inl e) = inr e
set_from (x ∷ xs) zero n m (inr h) = inl (inr h)
set_from (x ∷ xs) (suc k) n m (inl e) = inl (inl e)
set_from (x ∷ xs) (suc k) n m (inr h) = elim (set_from xs k n m h) [ inl a ↦ inl (inr a) | inr b ↦ inr b ]

set_to : (ns : List Need) (k : ℕ) (x n m : Need) → slice_get ns k ≡ Some x → In m ns → In m (slice_set ns k n) ⊎ (m ≡ x)
set_to [] k x n m at h = absurd h
set_to (y ∷ ys) zero x n m at (inl e) = let same : y ≡ x = cc at in inr (e ∙ same)
set_to (y ∷ ys) zero x n m at (inr h) = inl (inr h)
set_to (y ∷ ys) (suc k) x n m at (inl e) = inl (inl e)
set_to (y ∷ ys) (suc k) x n m at (inr h) = elim (set_to ys k x n m at h) [ inl a ↦ inl (inr a) | inr b ↦ inr b ]

set_has : (ns : List Need) (k : ℕ) (x n : Need) → slice_get ns k ≡ Some x → In n (slice_set ns k n)
set_has [] k x n at = absurd (cc at)
set_has (y ∷ ys) zero x n at = inl refl
set_has (y ∷ ys) (suc k) x n at = inr (set_has ys k x n at)

said_get : (ls : List (Bor Need)) (k : ℕ) (b : Bor Need) → slice_get ls k ≡ Some b → slice_get (said ls) k ≡ Some b.now
said_get [] k b at = absurd (cc at)
said_get (x ∷ xs) zero b at = let same : x ≡ b = cc at in ap (λ (y : Bor Need). Some y.now) same
said_get (x ∷ xs) (suc k) b at = said_get xs k b at

module _ (R : Need → Need → Type 0) where
  -- a line for which another stands
  pub lies_at : (ls : List (Bor Need)) (k : ℕ) (b : Bor Need) (n : Need) → b ≡ get_or ls k b → k < length ls → R n b.now → IsOfOne R n (said ls)
  lies_at [] k b n at less h = absurd (omega (arith, less))
  lies_at (x ∷ xs) zero b n at less h = (b.now, (0, omega arith, ap (λ (y : Bor Need). y.now) (sym at)), h)
  lies_at (x ∷ xs) (suc k) b n at less h = let m = lies_at xs k b n at (omega (arith, less)) h in (m.0, Contains-append_right (x.now ∷ []) (said xs) m.0 m.1, m.2)

  pub lies_behind : (ls : List (Bor Need)) (k many : ℕ) (n : Need) → IsOfOne R n (said (take many (drop k ls))) → IsOfOne R n (said ls)
  lies_behind ls k many n h = (h.0, contains_behind ls k many h.0 h.1, h.2)

  module _ (self : (n : Need) → R n n) where
    pub outer_self : (ms ns : List Need) → ms ≡ ns → AreOuterBy R ms ns
    outer_self ms ns e = record {
      among = λ m h. subst (λ (ks : List Need). Contains ks m) e h;
      all = λ n h. (n, subst (λ (ks : List Need). Contains ks n) (sym e) h, self n);
    }

    -- a line for which one of those before it stands
    pub outer_again : (ns : List Need) (n : Need) → IsOfOne R n ns → AreOuterBy R ns (ns ++ n ∷ [])
    outer_again ns n one = record {
      among = λ m h. Contains-append_left ns (n ∷ []) m h;
      all = λ m h. elim (Contains-append_cases ns (n ∷ []) m h) [ inl a ↦ (m, a, self m) | inr b ↦ subst (λ (y : Need). IsOfOne R y ns) (only_one n m b.0 b.1 b.2) one ];
    }

    -- a line in the place of one for which it stands
    outer_set : (ns : List Need) (k : ℕ) (x n : Need) → slice_get ns k ≡ Some x → R x n → AreOuterBy R (slice_set ns k n) (ns ++ n ∷ [])
    outer_set ns k x n at lies =
        let now : List Need = slice_set ns k n in
        let this : Contains now n = contains_of now n (set_has ns k x n at) in
        record {
          among = λ m h. elim (set_from ns k n m (in_of now m h)) [
            | inl a ↦ Contains-append_left ns (n ∷ []) m (contains_of ns m a)
            | inr e ↦ Contains-append_right ns (n ∷ []) m (0, omega arith, sym e)
          ];
          all = λ m h. elim (Contains-append_cases ns (n ∷ []) m h) [
            | inl a ↦ elim (set_to ns k x n m at (in_of ns m a)) [ inl b ↦ (m, contains_of now m b, self m) | inr e ↦ (n, this, subst (λ (y : Need). R y n) (sym e) lies) ]
            | inr b ↦ (n, this, subst (λ (y : Need). R y n) (only_one n m b.0 b.1 b.2) (self n))
          ];
        }

    pub outer_put : (ls : List (Bor Need)) (k : ℕ) (b : Bor Need) → MatchOption (slice_get ls k) ⊥ (λ x. R x.now b.now) → AreOuterBy R (said (slice_set ls k b)) (said ls ++ b.now ∷ [])
    outer_put ls k b h = of (slice_get ls k) refl h
      where
        of : (o : Option (Bor Need)) → slice_get ls k ≡ o → MatchOption o ⊥ (λ x. R x.now b.now) → AreOuterBy R (said (slice_set ls k b)) (said ls ++ b.now ∷ [])
        of None at lies = absurd lies
        of (Some x) at lies =
            subst (λ (ms : List Need). AreOuterBy R ms (said ls ++ b.now ∷ [])) (sym (map-set (λ (m : Bor Need). m.now) ls k b))
            (outer_set (said ls) k x.now b.now (said_get ls k x at) lies)

  -- one more behind lines of which some were left out
  pub outer_more : ((l m n : Need) → R l m → R m n → R l n) → (ms ns now : List Need) (n : Need) → AreOuterBy R ms ns → AreOuterBy R now (ms ++ n ∷ []) → AreOuterBy R now (ns ++ n ∷ [])
  outer_more on ms ns now n before more = record {
    among = λ m h. elim (Contains-append_cases ms (n ∷ []) m (more.among m h)) [
      | inl a ↦ Contains-append_left ns (n ∷ []) m (before.among m a)
      | inr b ↦ Contains-append_right ns (n ∷ []) m b
    ];
    all = λ m h. elim (Contains-append_cases ns (n ∷ []) m h) [
      | inl a ↦
          let first = before.all m a in
          let second = more.all first.0 (Contains-append_left ms (n ∷ []) first.0 first.1) in
          (second.0, second.1, on m first.0 second.0 first.2 second.2)
      | inr b ↦ more.all m (Contains-append_right ms (n ∷ []) m b)
    ];
  }
