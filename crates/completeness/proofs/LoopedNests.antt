-- The functions that are computed inside the loops of a group, and its body, one by one.
use Rattle.std.proofs.Common.{◌≡◌, ℕ, zero, suc, ◌+◌, List, [], ◌∷◌, ◌++◌, length, Option, Some, None, refl, sym, subst}
use Rattle.std.specs.Prelude.{slice_get}
use Rattle.std.specs.List.{AllByRecursion}
use Rattle.bounds.proofs.ListSound.{all-append}
use Rattle.plan.specs.declared.plan.Group.{Group as CodeGroup}
use Rattle.plan.specs.declared.certificate.cert.Claim.{Claim as CodeClaim}
use Rattle.plan.specs.declared.certificate.cert.Need.{Need}
use Rattle.plan.specs.declared.certificate.cert.Window.{Window}
use Rattle.meaning.specs.Algorithm.{Algorithm}
use Rattle.sched.specs.Fetches.{Entry}
use Rattle.sched.specs.Placed.{PlacedText}
use Rattle.lower.specs.Computed.{IsComputed, AreComputedIf, AreFound, AreAllFound}
use Rattle.lower.specs.Groups.{IsBodyBy, AreBodiesBy}

-- ---- functions inside

module _ (a : Algorithm) (e : Entry) (es : List Entry) (Q : PlacedText → Type 0)
    (each : (is : List PlacedText) (k : ℕ) (c : Entry) → slice_get es k ≡ Some c → (i : PlacedText) → IsComputed a e es is c i → Q i) where
  computed_all : (is : List PlacedText) (k : ℕ) (c : Entry) → slice_get es k ≡ Some c → (js : List PlacedText) → AllByRecursion (IsComputed a e es is c) js → AllByRecursion Q js
  computed_all is k c at [] h = tt
  computed_all is k c at (j ∷ js) h = (each is k c at j h.0, computed_all is k c at js h.1)

  computed_if : (is : List PlacedText) (k : ℕ) (o : Option Entry) → slice_get es k ≡ o → (js : List PlacedText) → AreComputedIf a e es is o js → AllByRecursion Q js
  computed_if is k None at js h = subst (AllByRecursion Q) (sym h) tt
  computed_if is k (Some c) at js h = computed_all is k c at js h.each

  -- this is so of all that are computed in a group
  pub found_all : (n : ℕ) (is all : List PlacedText) → AllByRecursion Q is → AreFound a e es n is all → AllByRecursion Q all
  found_all zero is all h found = subst (AllByRecursion Q) (sym found) h
  found_all (suc n) is all h found = found_all n (is ++ found.found) all (all-append Q is found.found h (computed_if is n (slice_get es n) refl found.found found.these)) found.others

pub found_at : (a : Algorithm) (m : ℕ) (roots es : List Entry) (placed : List (List PlacedText)) → AreAllFound a m roots es placed → (n : ℕ) (e : Entry) (is : List PlacedText) →
    slice_get roots n ≡ Some e → slice_get placed n ≡ Some is → AreFound a e es m [] is
found_at a m [] es placed h n e is at there = absurd (cc at)
found_at a m (r ∷ roots) es [] h n e is at there = absurd h
found_at a m (r ∷ roots) es (js ∷ placed) h zero e is at there =
    let entry : r ≡ e = cc at in
    let inners : js ≡ is = cc there in
    subst (λ (u : Entry). AreFound a u es m [] is) entry (subst (λ (ks : List PlacedText). AreFound a r es m [] ks) inners h.0)
found_at a m (r ∷ roots) es (js ∷ placed) h (suc n) e is at there = found_at a m roots es placed h.1 n e is at there

-- ---- bodies

module _ (a : Algorithm) (all : List Entry) where
  -- the body of the group of this number
  pub record BodyAt (placed : List (List PlacedText)) (es : List Entry) (n : ℕ) (p : CodeGroup) : Type 0 where
    pub number : ℕ
    pub first : ℕ
    pub line : ℕ
    pub next : ℕ
    pub inners : List PlacedText
    pub entry : Entry
    pub claims : List CodeClaim
    pub needs : List Need
    pub windows : List Window
    pub inside : slice_get placed n ≡ Some inners
    pub is : slice_get es n ≡ Some entry
    pub body : IsBodyBy a all number first line next inners entry p claims needs windows

  later_body : (is : List PlacedText) (placed : List (List PlacedText)) (e : Entry) (es : List Entry) (n : ℕ) (p : CodeGroup) → BodyAt placed es n p → BodyAt (is ∷ placed) (e ∷ es) (suc n) p
  later_body is placed e es n p h = record {
    number = h.number;
    first = h.first;
    line = h.line;
    next = h.next;
    inners = h.inners;
    entry = h.entry;
    claims = h.claims;
    needs = h.needs;
    windows = h.windows;
    inside = h.inside;
    is = h.is;
    body = h.body;
  }

  pub body_at : (m c line : ℕ) (placed : List (List PlacedText)) (es : List Entry) (ps : List CodeGroup) (claims : List CodeClaim) (needs : List Need) (windows : List Window) →
      AreBodiesBy a all m c line placed es ps claims needs windows → (n : ℕ) (p : CodeGroup) → slice_get ps n ≡ Some p → BodyAt placed es n p
  body_at m c line [] [] [] claims needs windows h n p at = absurd (cc at)
  body_at m c line [] [] (q ∷ ps) claims needs windows h n p at = absurd h
  body_at m c line [] (e ∷ es) ps claims needs windows h n p at = absurd h
  body_at m c line (is ∷ placed) [] ps claims needs windows h n p at = absurd h
  body_at m c line (is ∷ placed) (e ∷ es) [] claims needs windows h n p at = absurd h
  body_at m c line (is ∷ placed) (e ∷ es) (q ∷ ps) claims needs windows h zero p at =
      let same : q ≡ p = cc at in
      subst (BodyAt (is ∷ placed) (e ∷ es) zero) same (record {
        number = m;
        first = c;
        line = line;
        next = h.next;
        inners = is;
        entry = e;
        claims = h.own_claims;
        needs = h.own_needs;
        windows = h.own_windows;
        inside = refl;
        is = refl;
        body = h.here;
      })
  body_at m c line (is ∷ placed) (e ∷ es) (q ∷ ps) claims needs windows h (suc n) p at =
      later_body is placed e es n p (body_at (m + 1) (c + length h.own_claims) h.next placed es ps h.other_claims h.other_needs h.other_windows h.behind n p at)
