-- What the groups of whole functions fetch, and the need lines of it.
use Rattle.std.proofs.Common.{◌≡◌, ℕ, zero, suc, ◌+◌, Bool, true, false, List, [], ◌∷◌, ◌++◌, length, Option, Some, refl, sym, ap, ◌∙◌, subst, inl, inr, ◌⊎◌, arith}
use Rattle.std.specs.Prelude.{slice_get}
use Rattle.lin.specs.declared.scope.Binding.{Binding}
use Rattle.plan.specs.declared.plan.Group.{Group}
use Rattle.plan.specs.declared.certificate.cert.Claim.{Claim}
use Rattle.plan.specs.declared.certificate.cert.Need.{Need}
use Rattle.meaning.specs.Algorithm.{Algorithm}
use Rattle.soundness.specs.Claims.{In}
use Rattle.soundness.proofs.Refines.{and_parts}
use Rattle.sched.specs.Stored.{FormulaText, StoredText}
use Rattle.sched.specs.Regions.{LaidText}
use Rattle.regions.specs.Faults.{is_whole, is_homeless, are_whole}
use Rattle.sched.specs.Fetches.{Entry}
use Rattle.blocks.specs.Fetches.{FetchText}
use Rattle.lower.specs.Fetches.{is_fetched, fetched_groups, fetched_if, Calls, IsPart, IsFetched, AreFetched}
use Rattle.lower.specs.Groups.{HasBody, line_behind, HaveBodies, rooted, rooted_if}

some_same : {A : Type 0} (x y : A) → Some x ≡ Some y → x ≡ y
some_same x y e = cc e

-- ---- fetches and need lines stand side by side

pub record IsFetchAt (calls : Calls) (grid : List Binding) (n : ℕ) (xs : List (ℕ × Entry)) (ws : List Need) (f : FetchText) : Type 0 where
  pub place : ℕ
  pub group : ℕ × Entry
  pub need : Need
  pub listed : slice_get xs place ≡ Some group
  pub needed : slice_get ws place ≡ Some need
  pub grouped : f.group ≡ group.0
  pub buffer : ℕ
  pub line : ℕ
  pub claim : Claim
  pub fetched : IsFetched n buffer line group.0 group.1 f need claim
  pub part : IsPart calls grid group.1 f

module _ (calls : Calls) (grid : List Binding) (n : ℕ) where
  abbrev next_fetch : (x : ℕ × Entry) (xs : List (ℕ × Entry)) (w : Need) (ws : List Need) (f : FetchText) → IsFetchAt calls grid n xs ws f → IsFetchAt calls grid n (x ∷ xs) (w ∷ ws) f
  next_fetch x xs w ws f r = record {
    place = suc r.place;
    group = r.group;
    need = r.need;
    listed = r.listed;
    needed = r.needed;
    grouped = r.grouped;
    buffer = r.buffer;
    line = r.line;
    claim = r.claim;
    fetched = r.fetched;
    part = r.part;
  }

  pub fetch_at : (b line : ℕ) (xs : List (ℕ × Entry)) (fs : List FetchText) (ws : List Need) (cs : List Claim) → AreFetched calls grid n b line xs fs ws cs → (i : ℕ) (f : FetchText) →
      slice_get fs i ≡ Some f →
      IsFetchAt calls grid n xs ws f
  fetch_at b line [] [] [] [] h i f e = absurd (cc e)
  fetch_at b line [] [] [] (c ∷ cs) h i f e = absurd h
  fetch_at b line [] [] (w ∷ ws) cs h i f e = absurd h
  fetch_at b line [] (g ∷ fs) ws cs h i f e = absurd h
  fetch_at b line (x ∷ xs) [] ws cs h i f e = absurd (cc e)
  fetch_at b line (x ∷ xs) (g ∷ fs) [] cs h i f e = absurd h
  fetch_at b line (x ∷ xs) (g ∷ fs) (w ∷ ws) [] h i f e = absurd h
  fetch_at b line (x ∷ xs) (g ∷ fs) (w ∷ ws) (c ∷ cs) h zero f e =
      let one : g ≡ f = cc e in
      subst (IsFetchAt calls grid n (x ∷ xs) (w ∷ ws)) one (record {
        place = 0;
        group = x;
        need = w;
        listed = refl;
        needed = refl;
        grouped = h.0.grouped;
        buffer = b;
        line = line;
        claim = c;
        fetched = h.0;
        part = h.1;
      })
  fetch_at b line (x ∷ xs) (g ∷ fs) (w ∷ ws) (c ∷ cs) h (suc i) f e = next_fetch x xs w ws f (fetch_at (b + 1) (line + 2) xs fs ws cs h.2 i f e)

  -- and each need line is one of a fetch
  pub need_at : (b line : ℕ) (xs : List (ℕ × Entry)) (fs : List FetchText) (ws : List Need) (cs : List Claim) → AreFetched calls grid n b line xs fs ws cs → (w : Need) → In w ws →
      (f : FetchText) × (r : IsFetchAt calls grid n xs ws f) × (r.need ≡ w)
  need_at b line [] [] [] [] h w m = absurd m
  need_at b line [] [] [] (c ∷ cs) h w m = absurd h
  need_at b line [] [] (v ∷ ws) cs h w m = absurd h
  need_at b line [] (g ∷ fs) ws cs h w m = absurd h
  need_at b line (x ∷ xs) [] [] cs h w m = absurd m
  need_at b line (x ∷ xs) [] (v ∷ ws) cs h w m = absurd h
  need_at b line (x ∷ xs) (g ∷ fs) [] cs h w m = absurd m
  need_at b line (x ∷ xs) (g ∷ fs) (v ∷ ws) [] h w m = absurd h
  need_at b line (x ∷ xs) (g ∷ fs) (v ∷ ws) (c ∷ cs) h w (inl e) = (
    g,
    record {
      place = 0;
      group = x;
      need = v;
      listed = refl;
      needed = refl;
      grouped = h.0.grouped;
      buffer = b;
      line = line;
      claim = c;
      fetched = h.0;
      part = h.1;
    },
    sym e,
  )
  need_at b line (x ∷ xs) (g ∷ fs) (v ∷ ws) (c ∷ cs) h w (inr m) =
      let r = need_at (b + 1) (line + 2) xs fs ws cs h.2 w m in
      (r.0, next_fetch x xs v ws r.0 r.1, r.2)

-- ---- which groups are fetched

pub record IsOther (us : List FormulaText) (n from : ℕ) (es : List Entry) (x : ℕ × Entry) : Type 0 where
  pub place : ℕ
  pub numbered : x.0 ≡ from + place
  pub at : slice_get es place ≡ Some x.1
  pub fetched : is_fetched us n x.0 x.1 ≡ true

module _ (us : List FormulaText) (n : ℕ) where
  pub other_at : (from : ℕ) (es : List Entry) (i : ℕ) (x : ℕ × Entry) → slice_get (fetched_groups us n from es) i ≡ Some x → IsOther us n from es x
  other_at from [] i x q = absurd (cc q)
  other_at from (e ∷ es) i x q = of (is_fetched us n from e) refl i q (λ j k. later (other_at (from + 1) es j x k))
    where
      later : IsOther us n (from + 1) es x → IsOther us n from (e ∷ es) x
      later r = record { place = suc r.place; numbered = (let k = r.numbered in omega (arith, k)); at = r.at; fetched = r.fetched }

      of : (b : Bool) → is_fetched us n from e ≡ b → (i : ℕ) → slice_get (fetched_if b from e (fetched_groups us n (from + 1) es)) i ≡ Some x →
          ((j : ℕ) → slice_get (fetched_groups us n (from + 1) es) j ≡ Some x → IsOther us n from (e ∷ es) x) → IsOther us n from (e ∷ es) x
      of true t zero k rest =
          let one : (from, e) ≡ x = some_same (from, e) x k in
          record {
            place = 0;
            numbered = ap (λ (y : ℕ × Entry). y.0) (sym one) ∙ (let none : from ≡ from + 0 = omega arith in none);
            at = ap (λ (y : ℕ × Entry). Some y.1) one;
            fetched = ap (λ (y : ℕ × Entry). is_fetched us n y.0 y.1) (sym one) ∙ t;
          }
      of true t (suc j) k rest = rest j k
      of false t j k rest = rest j k

-- ---- bodies, group by group

pub record HasBodyAt (a : Algorithm) (all : List Entry) (n : ℕ) (g : StoredText) (p : Group) (needs : List Need) : Type 0 where
  pub first_claim : ℕ
  pub line : ℕ
  pub claims : List Claim
  pub own_needs : List Need
  pub body : HasBody a all n first_claim line g p claims own_needs
  pub among : (w : Need) → In w own_needs → In w needs

in_first : {A : Type 0} (x : A) (xs ys : List A) → In x xs → In x (xs ++ ys)
in_first x [] ys h = absurd h
in_first x (y ∷ xs) ys (inl e) = inl e
in_first x (y ∷ xs) ys (inr h) = inr (in_first x xs ys h)

in_second : {A : Type 0} (x : A) (xs ys : List A) → In x ys → In x (xs ++ ys)
in_second x [] ys h = h
in_second x (y ∷ xs) ys h = inr (in_second x xs ys h)

in_either : {A : Type 0} (x : A) (xs ys : List A) → In x (xs ++ ys) → In x xs ⊎ In x ys
in_either x [] ys h = inr h
in_either x (y ∷ xs) ys (inl e) = inl (inl e)
in_either x (y ∷ xs) ys (inr h) = elim (in_either x xs ys h) [ inl k ↦ inl (inr k) | inr k ↦ inr k ]

module _ (a : Algorithm) (all : List Entry) where
  pub body_at : (n c line : ℕ) (gs : List StoredText) (ps : List Group) (claims : List Claim) (needs : List Need) → HaveBodies a all n c line gs ps claims needs →
      (i : ℕ) (g : StoredText) (p : Group) → slice_get gs i ≡ Some g → slice_get ps i ≡ Some p → HasBodyAt a all (n + i) g p needs
  body_at n c line [] ps claims needs h i g p at there = absurd (cc at)
  body_at n c line (u ∷ gs) [] claims needs h i g p at there = absurd h
  body_at n c line (u ∷ gs) (q ∷ ps) claims needs h zero g p at there =
      let one : u ≡ g = cc at in
      let two : q ≡ p = cc there in
      let none : n ≡ n + 0 = omega arith in
      subst (λ (m : ℕ). HasBodyAt a all m g p needs) none (subst (λ (w : StoredText). HasBodyAt a all n w p needs) one (subst (λ (w : Group). HasBodyAt a all n u w needs) two (record {
        first_claim = c;
        line = line;
        claims = h.own_claims;
        own_needs = h.own_needs;
        body = h.here;
        among = λ w m. subst (In w) (sym h.needed) (in_first w h.own_needs h.other_needs m);
      })))
  body_at n c line (u ∷ gs) (q ∷ ps) claims needs h (suc i) g p at there =
      let r = body_at (n + 1) (c + length h.own_claims) (line_behind line q) gs ps h.other_claims h.other_needs h.behind i g p at there in
      let next : (n + 1) + i ≡ n + suc i = omega arith in
      subst (λ (m : ℕ). HasBodyAt a all m g p needs) next (record {
        first_claim = r.first_claim;
        line = r.line;
        claims = r.claims;
        own_needs = r.own_needs;
        body = r.body;
        among = λ w m. subst (In w) (sym h.needed) (in_second w h.own_needs h.other_needs (r.among w m));
      })

  -- a need line is one of some group's
  pub record IsNeedOf (n : ℕ) (gs : List StoredText) (ps : List Group) (w : Need) : Type 0 where
    pub place : ℕ
    pub stored : StoredText
    pub group : Group
    pub at : slice_get gs place ≡ Some stored
    pub there : slice_get ps place ≡ Some group
    pub first_claim : ℕ
    pub line : ℕ
    pub claims : List Claim
    pub own_needs : List Need
    pub body : HasBody a all (n + place) first_claim line stored group claims own_needs
    pub among : In w own_needs

  pub need_of : (n c line : ℕ) (gs : List StoredText) (ps : List Group) (claims : List Claim) (needs : List Need) → HaveBodies a all n c line gs ps claims needs → (w : Need) → In w needs →
      IsNeedOf n gs ps w
  need_of n c line [] [] claims needs h w m = absurd (subst (In w) h.1 m)
  need_of n c line [] (p ∷ ps) claims needs h w m = absurd h
  need_of n c line (g ∷ gs) [] claims needs h w m = absurd h
  need_of n c line (g ∷ gs) (p ∷ ps) claims needs h w m = of (in_either w h.own_needs h.other_needs (subst (In w) h.needed m))
      (need_of (n + 1) (c + length h.own_claims) (line_behind line p) gs ps h.other_claims h.other_needs h.behind w)
    where
      of : In w h.own_needs ⊎ In w h.other_needs → (In w h.other_needs → IsNeedOf (n + 1) gs ps w) → IsNeedOf n (g ∷ gs) (p ∷ ps) w
      of (inl k) rest = record {
        place = 0;
        stored = g;
        group = p;
        at = refl;
        there = refl;
        first_claim = c;
        line = line;
        claims = h.own_claims;
        own_needs = h.own_needs;
        body = (let none : n ≡ n + 0 = omega arith in subst (λ (i : ℕ). HasBody a all i c line g p h.own_claims h.own_needs) none h.here);
        among = k;
      }
      of (inr k) rest =
          let r = rest k in
          record {
            place = suc r.place;
            stored = r.stored;
            group = r.group;
            at = r.at;
            there = r.there;
            first_claim = r.first_claim;
            line = r.line;
            claims = r.claims;
            own_needs = r.own_needs;
            body = (let next : (n + 1) + r.place ≡ n + suc r.place = omega arith in subst (λ (i : ℕ). HasBody a all i r.first_claim r.line r.stored r.group r.claims r.own_needs) next r.body);
            among = r.among;
          }

-- ---- the root functions over their regions are all of them

pub record IsEntry (gs : List StoredText) (ls : List (Option LaidText)) (i : ℕ) (e : Entry) : Type 0 where
  pub is : slice_get gs i ≡ Some e.0
  pub laid : slice_get ls i ≡ Some (Some e.1)
  pub defined : e.0.formulas ≡ Some e.2

abbrev pub AreReady : List StoredText → List (Option LaidText) → Type 0
AreReady gs ls = (i : ℕ) (g : StoredText) → slice_get gs i ≡ Some g → (fs : List FormulaText) × (l : LaidText) × (g.formulas ≡ Some fs) × (slice_get ls i ≡ Some (Some l))

next_entry : (g : StoredText) (gs : List StoredText) (l : Option LaidText) (ls : List (Option LaidText)) (i : ℕ) (e : Entry) → IsEntry gs ls i e → IsEntry (g ∷ gs) (l ∷ ls) (suc i) e
next_entry g gs l ls i e r = record { is = r.is; laid = r.laid; defined = r.defined }

pub entry_at : (gs : List StoredText) (ls : List (Option LaidText)) → are_whole gs ≡ true → AreReady gs ls → (i : ℕ) (e : Entry) → slice_get (rooted true gs ls) i ≡ Some e → IsEntry gs ls i e
entry_at [] ls w ready i e q = absurd (cc q)
entry_at (g ∷ gs) [] w ready i e q = absurd (let r = ready 0 g refl in cc r.3)
entry_at (g ∷ gs) (l ∷ ls) w ready i e q =
    let parts = and_parts (is_whole g) (are_whole gs) w in
    let root = (and_parts g.subject.is_root (is_homeless g.placed.homes) parts.0).0 in
    let r = ready 0 g refl in
    let fs = r.0 in
    let m = r.1 in
    let laid : l ≡ Some m = some_same l (Some m) r.3 in
    let here : rooted true (g ∷ gs) (l ∷ ls) ≡ (g, m, fs) ∷ rooted true gs ls =
    (λ t. rooted_if (root t) g (r.2 t) (laid t) (rooted true gs ls)) in
    of i fs m (ap (λ (es : List Entry). slice_get es i) (sym here) ∙ q) (entry_at gs ls parts.1 (λ j u k. ready (suc j) u k)) r.2 laid
  where
    of : (i : ℕ) (fs : List FormulaText) (m : LaidText) → slice_get ((g, m, fs) ∷ rooted true gs ls) i ≡ Some e →
        ((j : ℕ) (e : Entry) → slice_get (rooted true gs ls) j ≡ Some e → IsEntry gs ls j e) → g.formulas ≡ Some fs → l ≡ Some m → IsEntry (g ∷ gs) (l ∷ ls) i e
    of zero fs m k rest defined laid =
        let one : (g, m, fs) ≡ e = some_same (g, m, fs) e k in
        subst (IsEntry (g ∷ gs) (l ∷ ls) 0) one (record { is = refl; laid = ap (λ (o : Option LaidText). Some o) laid; defined = defined })
    of (suc j) fs m k rest defined laid = next_entry g gs l ls j e (rest j e k)

-- and each of them has one
pub entry_there : (gs : List StoredText) (ls : List (Option LaidText)) → are_whole gs ≡ true → AreReady gs ls → (i : ℕ) (g : StoredText) → slice_get gs i ≡ Some g →
    (e : Entry) × (slice_get (rooted true gs ls) i ≡ Some e) × (e.0 ≡ g)
entry_there [] ls w ready i g q = absurd (cc q)
entry_there (u ∷ gs) [] w ready i g q = absurd (let r = ready 0 u refl in cc r.3)
entry_there (u ∷ gs) (l ∷ ls) w ready i g q =
    let parts = and_parts (is_whole u) (are_whole gs) w in
    let root = (and_parts u.subject.is_root (is_homeless u.placed.homes) parts.0).0 in
    let r = ready 0 u refl in
    let laid : l ≡ Some r.1 = some_same l (Some r.1) r.3 in
    let here : rooted true (u ∷ gs) (l ∷ ls) ≡ (u, r.1, r.0) ∷ rooted true gs ls =
    (λ t. rooted_if (root t) u (r.2 t) (laid t) (rooted true gs ls)) in
    of i r.0 r.1 here q (λ j k. entry_there gs ls parts.1 (λ j u k. ready (suc j) u k) j g k)
  where
    of : (i : ℕ) (fs : List FormulaText) (m : LaidText) → rooted true (u ∷ gs) (l ∷ ls) ≡ (u, m, fs) ∷ rooted true gs ls → slice_get (u ∷ gs) i ≡ Some g →
        ((j : ℕ) → slice_get gs j ≡ Some g → (e : Entry) × (slice_get (rooted true gs ls) j ≡ Some e) × (e.0 ≡ g)) →
        (e : Entry) × (slice_get (rooted true (u ∷ gs) (l ∷ ls)) i ≡ Some e) × (e.0 ≡ g)
    of zero fs m here k rest = ((u, m, fs), ap (λ (es : List Entry). slice_get es 0) here, some_same u g k)
    of (suc j) fs m here k rest = let w = rest j k in (w.0, ap (λ (es : List Entry). slice_get es (suc j)) here ∙ w.1, w.2)
