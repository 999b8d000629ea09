-- What is stored reads as the definition: each load tells the function that it is of.
use Rattle.std.proofs.Common.{◌≡◌, ℕ, ◌<◌, suc, Bool, true, false, List, [], ◌∷◌, ◌^◌}
use Rattle.std.proofs.Common.{length, map, Option, Some, None, IsSome, refl, sym, ap, ◌∙◌, subst, inl, inr, arith}
use Rattle.std.specs.Prelude.{nat_lt, if◌then◌else◌, string_bytes, slice_get}
use Rattle.std.specs.List.{AllByRecursion}
use Rattle.std.specs.Fmt.{decimal}
use Rattle.std.proofs.lemmas.Bool.Decides.{nat_tests}
use Rattle.std.proofs.lemmas.Option.{slice_get_within}
use Rattle.numeric.specs.declared.ty.Ty.{Ty}
use Rattle.numeric.specs.declared.ty.Ty.TheVariants.{I32}
use Rattle.tree.specs.Term.{Term, Number, Name, Call, Minus, Binary, Clamp, Cast, Choice, Terms, End, More, Test, Compares, Fails, Both, Either}
use Rattle.tree.specs.Uses.{EachCall, EachCallOfTest, EachCallOfAll}
use Rattle.tree.specs.Substitution.{with_calls, test_with_calls, all_with_calls}
use Rattle.tree.specs.Typing.{type_of, is_typed, are_indices, common, answer_type, index_count, is_index}
use Rattle.plan.specs.Plan.{Group, Plan}
use Rattle.plan.specs.Claimed.{claim_of as claim_named}
use Rattle.plan.specs.declared.certificate.cert.Claim.{Claim as CodeClaim}
use Rattle.plan.specs.Certificate.Certificate.{Claim, Certificate, claim_of}
use Rattle.plan.specs.Semantics.Run.{Source, Input, ByClaim, Unknown, claim_source, source_of}
use Rattle.meaning.specs.Algorithm.{Algorithm}
use Rattle.meaning.specs.Names.{same_name}
use Rattle.meaning.specs.Conditions.{callable}
use Rattle.meaning.proofs.Alone.{each_call}
use Rattle.meaning.proofs.Calls.{callable_found}
use Rattle.meaning.proofs.InliningTyped.{only_if-is, common-is, operator-is, some-is, both_true, index-is, answer-is}
use Rattle.soundness.specs.Given.{claim_or_none, outline_of}
use Rattle.soundness.proofs.Refines.{name_true}
use Rattle.headline.proofs.Lists.{at_map}
use Rattle.validation.specs.Stored.Stored.{name_read, call_read, as_read}
use Rattle.sched.specs.Loading.{Loads, last_of, name_by, loaded_name, as_load}
use Rattle.completeness.specs.Laws.{NamesNoLoad}
use Rattle.completeness.proofs.Numerals.{load_tells}

-- ---- what replaces calls, and back

module _ (one two : List ℕ → Terms → Term) where
  abbrev pub Back : List ℕ → Terms → Type 0
  Back name at = (now : Terms) → with_calls two (one name now) ≡ Call name (all_with_calls two now)

  mutual
    pub back : (e : Term) → EachCall Back e → with_calls two (with_calls one e) ≡ e
    back (Number t n) h = refl
    back (Name name) h = refl
    back (Call name at) h = h.0 (all_with_calls one at) ∙ ap (Call name) (all_back at h.1)
    back (Minus a) h = ap Minus (back a h)
    back (Binary op a b) h = (λ i. Binary op (back a h.0 i) (back b h.1 i))
    back (Clamp a l u) h = (λ i. Clamp (back a h.0 i) (back l h.1 i) (back u h.2 i))
    back (Cast t a) h = ap (Cast t) (back a h)
    back (Choice c a b) h = (λ i. Choice (test_back c h.0 i) (back a h.1 i) (back b h.2 i))

    test_back : (c : Test) → EachCallOfTest Back c → test_with_calls two (test_with_calls one c) ≡ c
    test_back (Compares by a b) h = (λ i. Compares by (back a h.0 i) (back b h.1 i))
    test_back (Fails c) h = ap Fails (test_back c h)
    test_back (Both c d) h = (λ i. Both (test_back c h.0 i) (test_back d h.1 i))
    test_back (Either c d) h = (λ i. Either (test_back c h.0 i) (test_back d h.1 i))

    all_back : (at : Terms) → EachCallOfAll Back at → all_with_calls two (all_with_calls one at) ≡ at
    all_back End h = refl
    all_back (More a rest) h = (λ i. More (back a h.0 i) (all_back rest h.1 i))

-- ---- what has a type calls what can be called

some_there : {A : Type 0} (o : Option A) (x : A) → o ≡ Some x → IsSome o
some_there o x e = subst IsSome (sym e) refl

module _ (known : List ℕ → Bool) (functions : List ℕ → Option (Ty × ℕ)) where
  abbrev Can : List ℕ → Terms → Type 0
  Can name at = IsSome (functions name)

  mutual
    pub calls_can : (e : Term) (t : Ty) → type_of known functions e ≡ Some t → EachCall Can e
    calls_can (Number u n) t h = tt
    calls_can (Name name) t h = tt
    calls_can (Call name at) t h =
        let k = only_if-is (are_indices known functions at) (answer_type (functions name) (index_count at)) t h in
        let s = answer-is (functions name) (index_count at) t k.1 in
        (some_there (functions name) s.0 s.1, all_can at k.0)
    calls_can (Minus a) t h = calls_can a t h
    calls_can (Binary op a b) t h =
        let k = operator-is op (common (type_of known functions a) (type_of known functions b)) t h in
        let m = common-is (type_of known functions a) (type_of known functions b) k.0 k.1 in
        (calls_can a k.0 m.0, calls_can b k.0 m.1)
    calls_can (Clamp a l u) t h =
        let k = common-is (type_of known functions a) (common (type_of known functions l) (type_of known functions u)) t h in
        let m = common-is (type_of known functions l) (type_of known functions u) t k.1 in
        (calls_can a t k.0, calls_can l t m.0, calls_can u t m.1)
    calls_can (Cast v a) t h =
        let k = only_if-is _ (Some v) t h in
        let m = some-is (type_of known functions a) k.0 in
        calls_can a m.0 m.1
    calls_can (Choice c a b) t h =
        let k = only_if-is (is_typed known functions c) (common (type_of known functions a) (type_of known functions b)) t h in
        let m = common-is (type_of known functions a) (type_of known functions b) t k.1 in
        (test_can c k.0, calls_can a t m.0, calls_can b t m.1)

    test_can : (c : Test) → is_typed known functions c ≡ true → EachCallOfTest Can c
    test_can (Compares by a b) h =
        let k = some-is (common (type_of known functions a) (type_of known functions b)) h in
        let m = common-is (type_of known functions a) (type_of known functions b) k.0 k.1 in
        (calls_can a k.0 m.0, calls_can b k.0 m.1)
    test_can (Fails c) h = test_can c h
    test_can (Both c d) h = let k = both_true (is_typed known functions c) (is_typed known functions d) h in (test_can c k.0, test_can d k.1)
    test_can (Either c d) h = let k = both_true (is_typed known functions c) (is_typed known functions d) h in (test_can c k.0, test_can d k.1)

    all_can : (at : Terms) → are_indices known functions at ≡ true → EachCallOfAll Can at
    all_can End h = tt
    all_can (More a rest) h =
        let k = both_true (is_index (type_of known functions a)) (are_indices known functions rest) h in
        (calls_can a I32 (index-is (type_of known functions a) k.0), all_can rest k.1)

-- ---- loads

-- the claim of this number is of this function
abbrev pub IsClaimOf : List CodeClaim → List ℕ → ℕ → Type 0
IsClaimOf cs x k = (w : CodeClaim) × (slice_get cs k ≡ Some w) × (string_bytes w.function ≡ x)

abbrev pub AreClaims : List CodeClaim → Loads → Type 0
AreClaims cs ms = AllByRecursion (λ m. IsClaimOf cs m.0 m.1) ms

-- what is so of each load is so of the last one
module _ (P : List ℕ → ℕ → Type 0) where
  abbrev pub HasIf : List ℕ → Option ℕ → Type 0
  HasIf x o = elim o [ Some k ↦ P x k | None ↦ Unit {0} ]

  pub last_has : (x : List ℕ) (ms : Loads) (o : Option ℕ) → AllByRecursion (λ m. P m.0 m.1) ms → HasIf x o → HasIf x (last_of o ms x)
  last_has x [] o h k = k
  last_has x (m ∷ ms) o h k = last_has x ms (if same_name m.0 x then Some m.1 else o) h.1 (of (same_name m.0 x) refl)
    where
      of : (b : Bool) → same_name m.0 x ≡ b → HasIf x (if b then Some m.1 else o)
      of true e = subst (λ (y : List ℕ). P y m.1) (name_true m.0 x e) h.0
      of false e = k

module _ (a : Algorithm) (free : NamesNoLoad a) (p : Plan) (c : Certificate) (n : ℕ) (g : Group) (input : p.input.name ≡ a.input) (items : List CodeClaim) (are : c.claims ≡ map claim_of items)
    (few : length items < 2 ^ 64) (ms : Loads) (loads : AreClaims items ms) where
  abbrev count : ℕ
  count = length c.claims

  mapped : (xs : List CodeClaim) → length (map claim_of xs) ≡ length xs
  mapped [] = refl
  mapped (x ∷ xs) = ap suc (mapped xs)

  no_load : (x : List ℕ) → IsSome (callable a a.functions x) → claim_named x ≡ None
  no_load x h = elim (callable_found a a.functions x h) [
    | inl e ↦ ap claim_named e ∙ free.input
    | inr f ↦ ap claim_named (sym f.3) ∙ free.functions f.0 f.1 f.2
  ]

  -- a load tells its claim
  pub source_is : (k : ℕ) → k < length items → source_of p.input.name count (64 ∷ decimal k) ≡ ByClaim k
  source_is k within =
      let told = load_tells k (omega (arith, within, few)) in
      let same_count : count ≡ length items = ap length are ∙ mapped items in
      let less : nat_lt k count ≡ true = grind (arith, nat_tests, within, same_count) in
      let other = of (same_name (64 ∷ decimal k) p.input.name) refl told in
      ap (λ (b : Bool). if b then Input else claim_source count (claim_named (64 ∷ decimal k))) other ∙ ap (claim_source count) told ∙ ap (λ (b : Bool). if b then ByClaim k else Unknown) less
    where
      of : (b : Bool) → same_name (64 ∷ decimal k) p.input.name ≡ b → claim_named (64 ∷ decimal k) ≡ Some k → same_name (64 ∷ decimal k) p.input.name ≡ false
      of false e told = e
      of true e told =
          let same : 64 ∷ decimal k ≡ a.input = name_true (64 ∷ decimal k) p.input.name e ∙ input in
          absurd (cc (told, ap claim_named same, free.input))

  by_claim : (x : List ℕ) (k : ℕ) → IsClaimOf items x k → name_read (outline_of p c n g) (source_of p.input.name count (64 ∷ decimal k)) (64 ∷ decimal k) ≡ x
  by_claim x k h =
      let source = source_is k (slice_get_within items k h.0 h.1) in
      let claim : slice_get c.claims k ≡ Some (claim_of h.0) = ap (λ (cs : List Claim). slice_get cs k) are ∙ at_map claim_of items k h.0 h.1 in
      ap (λ (s : Source). name_read (outline_of p c n g) s (64 ∷ decimal k)) source ∙ ap (λ (o : Option Claim). (claim_or_none o).function) claim ∙ h.2

  by_name : (x : List ℕ) → claim_named x ≡ None → name_read (outline_of p c n g) (source_of p.input.name count x) x ≡ x
  by_name x none = of (same_name x p.input.name)
    where
      of : (b : Bool) → name_read (outline_of p c n g) (if b then Input else claim_source count (claim_named x)) x ≡ x
      of true = refl
      of false = ap (λ (o : Option ℕ). name_read (outline_of p c n g) (claim_source count o) x) none

  reads : (x : List ℕ) → IsSome (callable a a.functions x) → name_read (outline_of p c n g) (source_of p.input.name count (loaded_name ms x)) (loaded_name ms x) ≡ x
  reads x h = of (last_of None ms x) (last_has (IsClaimOf items) x ms None loads tt)
    where
      of : (o : Option ℕ) → HasIf (IsClaimOf items) x o → name_read (outline_of p c n g) (source_of p.input.name count (name_by o x)) (name_by o x) ≡ x
      of None k = by_name x (no_load x h)
      of (Some k) w = by_claim x k w

  -- an expression that has a type, with each call as a load, reads as itself
  pub read_back : (known : List ℕ → Bool) (t : Ty) (e : Term) → type_of known (callable a a.functions) e ≡ Some t → as_read (outline_of p c n g) (with_calls (as_load ms) e) ≡ e
  read_back known t e h =
      back (as_load ms) (call_read (outline_of p c n g)) e
      (each_call (λ name at. IsSome (callable a a.functions name)) (Back (as_load ms) (call_read (outline_of p c n g)))
      (λ name at can now. ap (λ (x : List ℕ). Call x (all_with_calls (call_read (outline_of p c n g)) now)) (reads name can)) e (calls_can known (callable a a.functions) e t h))
