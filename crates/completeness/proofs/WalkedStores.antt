-- What is stored in a group in whose loops functions are computed is the algorithm's definition, whoever's nest it is.
use Rattle.std.proofs.Common.{◌≡◌, ℕ, ◌<◌, zero, suc, ◌+◌, Bool, true, false, List, [], ◌∷◌, ◌++◌, length, take, drop, Option, Some, None, refl, sym, ap, ◌∙◌, subst, arith, ◌^◌}
use Rattle.std.specs.Prelude.{◌-◌}
use Rattle.lin.specs.declared.span.Span1.{Span1}
use Rattle.plan.specs.declared.stmt.Places.{Places}
use Rattle.std.specs.Prelude.{◌&&◌, ◌==◌, if◌then◌else◌, slice_get, MatchOption}
use Rattle.std.proofs.lemmas.Bool.Decides.{nat_tests}
use Rattle.std.specs.List.{AllByRecursion, list_all}
use Rattle.std.specs.Option.{option_map}
use Rattle.tree.specs.Term.{Term}
use Rattle.tree.specs.Substitution.{with_calls}
use Rattle.lin.specs.Forms.{Form}
use Rattle.plan.specs.declared.plan.Group.{Group as CodeGroup}
use Rattle.plan.specs.declared.certificate.cert.Claim.{Claim as CodeClaim}
use Rattle.plan.specs.Plan.{Index, At, Found, Coordinate, Statement, Store, Alloc, Plan, block}
use Rattle.plan.specs.View.{group_of, plan_of, statement_of}
use Rattle.plan.specs.Certificate.Certificate.{Claim, Certificate, claim_of, certificate_of}
use Rattle.plan.specs.Semantics.Setting.{allocated, function_in}
use Rattle.meaning.specs.Algorithm.{Function, Algorithm}
use Rattle.meaning.specs.Conditions.{IsAlgorithm}
use Rattle.soundness.specs.Origins.{Outline}
use Rattle.soundness.specs.Given.{outline_of}
use Rattle.soundness.specs.Obligations.{is_form, has_form}
use Rattle.headline.proofs.Lists.{from_map, at_left}
use Rattle.sched.specs.Schedule.{Schedule}
use Rattle.sched.specs.Legal.{said, loops_after}
use Rattle.sched.specs.Subjects.{subject_said}
use Rattle.sched.specs.Skeleton.{NestText}
use Rattle.sched.specs.Standing.{◌>>=◌}
use Rattle.plan.specs.declared.stmt.Pick.TheVariants.{Min}
use Rattle.sched.specs.declared.skeleton.Step.{Step}
use Rattle.sched.specs.declared.skeleton.Step.TheVariants.{Turns, Named, Tested}
use Rattle.validation.specs.Groups.Wrong.{IsLeft, AreLeft, IsDefinition, StoresAnother}
use Rattle.validation.specs.Stored.Definitions.{Definition, Pure, Step as Updates, parts_of, parts_named, definition_in, stored_in}
use Rattle.lower.specs.declared.lowering.Lowered.{Lowered}
use Rattle.sched.specs.declared.hosts.Host.TheVariants.{Inner as Inside, Later as Anew}
use Rattle.sched.specs.Stored.{FormulaText, StoredText}
use Rattle.blocks.specs.Stored.{stored_by, flags}
use Rattle.lower.specs.Stored.{stored_functions}
use Rattle.sched.specs.Around.{names_with}
use Rattle.sched.specs.Loading.{Loads, as_load}
use Rattle.sched.specs.Bodies.{first_left, other_lefts}
use Rattle.blocks.specs.Bodies.{own_lines, IsIndex, AreCoordinates}
use Rattle.sched.specs.Renamed.{Pairs, last_value, value_in, form_renamed, behind, at_renamed, coordinates_renamed, step_renamed}
use Rattle.sched.specs.Placed.{LaterText, PlacedText, OwnerText, SoFar, with_lines, with_symbol, with_name, with_claim, bound_by, around, index_by, coordinates_by, store_in, lets}
use Rattle.blocks.specs.Placed.{let_count}
use Rattle.blocks.specs.Placed.{held, owner}
use Rattle.blocks.proofs.Laying.{bound, same}
use Rattle.completeness.specs.Laws.{NamesNoLoad}
use Rattle.completeness.proofs.Laid.{subjects, found}
use Rattle.completeness.proofs.ClaimLines.{named_here}
use Rattle.completeness.proofs.ReadBack.{AreClaims}
use Rattle.completeness.proofs.Defined.{of_definition}
use Rattle.completeness.proofs.Unlike.{Clear, ClearAll, joined_clear, both_match}
use Rattle.completeness.proofs.Seats.{AgreeAll, agree_first, agree_second}
use Rattle.completeness.proofs.Walked.{choice, Lines, HoldsOfEach}
use Rattle.completeness.proofs.WalkedSeats.{store_is, held_is}
use Rattle.completeness.proofs.InnerShapes.{HaveShapes, IsInner}

-- ---- coordinates under other names

-- each of the ones is what is made of the other
abbrev Each : {A : Type 0} → (A → Option A) → List A → List A → Type 0
Each r [] [] = Unit {0}
Each r [] (y ∷ ys) = ⊥
Each r (x ∷ xs) [] = ⊥
Each r (x ∷ xs) (y ∷ ys) = (r x ≡ Some y) × Each r xs ys

record IsBehind {A : Type 0} (r : A → Option A) (made xs ys : List A) : Type 0 where
  rest : List A
  is : made ++ rest ≡ ys
  each : Each r xs rest

nothing_behind : {A : Type 0} (xs : List A) → xs ++ [] ≡ xs
nothing_behind [] = refl
nothing_behind (x ∷ xs) = ap (λ (ys : List _). x ∷ ys) (nothing_behind xs)

one_behind : {A : Type 0} (xs : List A) (x : A) (ys : List A) → (xs ++ x ∷ []) ++ ys ≡ xs ++ (x ∷ ys)
one_behind [] x ys = refl
one_behind (z ∷ xs) x ys = ap (λ (ws : List _). z ∷ ws) (one_behind xs x ys)

behind_is : {A : Type 0} (r : A → Option A) (made xs ys : List A) → behind r made xs ≡ Some ys → IsBehind r made xs ys
behind_is r made [] ys e = record { rest = []; is = nothing_behind made ∙ same made ys e; each = tt }
behind_is r made (x ∷ xs) ys e =
    let b = bound (r x) (λ y. behind r (made ++ y ∷ []) xs) ys e in
    let h = behind_is r (made ++ b.value ∷ []) xs ys b.comes in
    record { rest = b.value ∷ h.rest; is = sym (one_behind made b.value h.rest) ∙ h.is; each = (b.is, h.each) }

-- both are given by a form, or by the same expression
abbrev SameIndex : Index → Index → Type 0
SameIndex (At f) (At g) = Unit {0}
SameIndex (At f) (Found e) = ⊥
SameIndex (Found e) (At g) = ⊥
SameIndex (Found e) (Found d) = e ≡ d

abbrev Alike : List Coordinate → List Coordinate → Type 0
Alike [] [] = Unit {0}
Alike [] (d ∷ ds) = ⊥
Alike (c ∷ cs) [] = ⊥
Alike (c ∷ cs) (d ∷ ds) = SameIndex c.index d.index × Alike cs ds

record IsGiven (ls : Loads) (xs : List (List ℕ)) (os : List (Option Form)) (lefts : List (Option Term)) (cs : List Coordinate) : Type 0 where
  own : List Coordinate
  are : AreCoordinates ls xs os lefts own
  alike : Alike own cs

module _ (ls : Loads) (m : Pairs) where
  record IsGivenOne (o : Option Form) (left : Option Term) (i : Index) : Type 0 where
    own : Index
    is : (x : List ℕ) (xs : List (List ℕ)) (os : List (Option Form)) (lefts : List (Option Term)) (cs : List Coordinate) → first_left lefts ≡ left → AreCoordinates ls xs os (other_lefts lefts) cs →
        AreCoordinates ls (x ∷ xs) (o ∷ os) lefts (record { variable = x; index = own } ∷ cs)
    alike : SameIndex own i

  given_one : (o p : Option Form) (left : Option Term) (i : Index) → at_renamed m o ≡ Some p → index_by ls p left ≡ Some i → IsGivenOne o left i
  given_one None None None i e f = absurd (cc f)
  given_one None None (Some t) i e f =
      let is : Found (with_calls (as_load ls) t) ≡ i = same (Found (with_calls (as_load ls) t)) i f in
      record {
        own = Found (with_calls (as_load ls) t);
        is = λ x xs os lefts cs h k. (refl, found lefts h, k);
        alike = subst (SameIndex (Found (with_calls (as_load ls) t))) is refl;
      }
    where
      found : (lefts : List (Option Term)) → first_left lefts ≡ Some t → IsIndex ls None (first_left lefts) (Found (with_calls (as_load ls) t))
      found lefts h = subst (λ (o : Option Term). IsIndex ls None o (Found (with_calls (as_load ls) t))) (sym h) refl
  given_one None (Some q) left i e f = absurd (let no = same None (Some q) e in cc no)
  given_one (Some g) None left i e f = absurd (let b = bound (form_renamed m g) (λ h. Some (Some h)) None e in let no = same (Some b.value) None b.comes in cc no)
  given_one (Some g) (Some q) left i e f =
      let is : At q ≡ i = same (At q) i f in
      record { own = At g; is = λ x xs os lefts cs h k. (refl, refl, k); alike = subst (SameIndex (At g)) is tt }

  given : (xs : List (List ℕ)) (os ps : List (Option Form)) (lefts : List (Option Term)) (cs : List Coordinate) → Each (at_renamed m) os ps → coordinates_by ls xs ps lefts ≡ Some cs →
      IsGiven ls xs os lefts cs
  given xs [] [] lefts cs h e = record { own = []; are = tt; alike = subst (Alike []) (same [] cs e) tt }
  given xs [] (p ∷ ps) lefts cs h e = absurd h
  given xs (o ∷ os) [] lefts cs h e = absurd h
  given [] (o ∷ os) (p ∷ ps) lefts cs h e = absurd (cc e)
  given (x ∷ xs) (o ∷ os) (p ∷ ps) lefts cs h e =
      let made : Index → List Coordinate → List Coordinate = λ i cs. record { variable = x; index = i } ∷ cs in
      let b = bound (index_by ls p (first_left lefts)) (λ i. coordinates_by ls xs ps (other_lefts lefts) >>= λ cs. Some (made i cs)) cs e in
      let c = bound (coordinates_by ls xs ps (other_lefts lefts)) (λ cs. Some (made b.value cs)) cs b.comes in
      let one = given_one o p (first_left lefts) b.value h.0 b.is in
      let rest = given xs os ps (other_lefts lefts) c.value h.1 c.is in
      record {
        own = record { variable = x; index = one.own } ∷ rest.own;
        are = one.is x xs os lefts rest.own refl rest.are;
        alike = subst (Alike (record { variable = x; index = one.own } ∷ rest.own)) (same (made b.value c.value) cs c.comes) (one.alike, rest.alike);
      }

-- ---- such coordinates are of the same definition

same_forms : (i j : Index) → SameIndex i j → has_form i ≡ has_form j
same_forms (At f) (At g) h = refl
same_forms (At f) (Found e) h = absurd h
same_forms (Found e) (At g) h = absurd h
same_forms (Found e) (Found d) h = refl

all_forms : (cs ds : List Coordinate) → Alike cs ds → list_all is_form cs ≡ true → list_all is_form ds ≡ true
all_forms [] [] h e = refl
all_forms [] (d ∷ ds) h e = absurd h
all_forms (c ∷ cs) [] h e = absurd h
all_forms (c ∷ cs) (d ∷ ds) h e = of (has_form c.index) (has_form d.index) (same_forms c.index d.index h.0) e (all_forms cs ds h.1)
  where
    of : (a b : Bool) → a ≡ b → (a && list_all is_form cs) ≡ true → (list_all is_form cs ≡ true → list_all is_form ds ≡ true) → (b && list_all is_form ds) ≡ true
    of true true q t rest = rest t
    of true false q t rest = absurd (cc q)
    of false b q t rest = absurd (cc t)

first_alike : (n : ℕ) (cs ds : List Coordinate) → Alike cs ds → Alike (take n cs) (take n ds)
first_alike zero cs ds h = tt
first_alike (suc n) [] [] h = tt
first_alike (suc n) [] (d ∷ ds) h = absurd h
first_alike (suc n) (c ∷ cs) [] h = absurd h
first_alike (suc n) (c ∷ cs) (d ∷ ds) h = (h.0, first_alike n cs ds h.1)

others_alike : (n : ℕ) (cs ds : List Coordinate) → Alike cs ds → Alike (drop n cs) (drop n ds)
others_alike zero cs ds h = h
others_alike (suc n) [] [] h = tt
others_alike (suc n) [] (d ∷ ds) h = absurd h
others_alike (suc n) (c ∷ cs) [] h = absurd h
others_alike (suc n) (c ∷ cs) (d ∷ ds) h = others_alike n cs ds h.1

module _ (a : Algorithm) (p : Plan) (outline : Outline) where
  same_left : (v : List ℕ) (t : Term) (i j : Index) → SameIndex i j → IsLeft a p outline v t i → IsLeft a p outline v t j
  same_left v t (At f) (At g) h k = k
  same_left v t (At f) (Found e) h k = absurd h
  same_left v t (Found e) (At g) h k = absurd h
  same_left v t (Found e) (Found d) h k = subst (λ (u : Term). IsLeft a p outline v t (Found u)) h k

  same_lefts : (vs : List (List ℕ)) (ts : List Term) (cs ds : List Coordinate) → Alike cs ds → AreLeft a p outline vs ts cs → AreLeft a p outline vs ts ds
  same_lefts [] [] [] [] h k = tt
  same_lefts [] [] [] (d ∷ ds) h k = absurd h
  same_lefts [] [] (c ∷ cs) ds h k = absurd k
  same_lefts [] (t ∷ ts) cs ds h k = absurd k
  same_lefts (v ∷ vs) [] cs ds h k = absurd k
  same_lefts (v ∷ vs) (t ∷ ts) [] ds h k = absurd k
  same_lefts (v ∷ vs) (t ∷ ts) (c ∷ cs) [] h k = absurd h
  same_lefts (v ∷ vs) (t ∷ ts) (c ∷ cs) (d ∷ ds) h k = (same_left v t c.index d.index h.0 k.0, same_lefts vs ts cs ds h.1 k.1)

  same_definition : (d : Definition) (cs ds : List Coordinate) (e : Term) → Alike cs ds → IsDefinition a p outline d cs e → IsDefinition a p outline d ds e
  same_definition (Pure f) cs ds e h k = (all_forms cs ds h k.0, k.1)
  same_definition (Updates f u) cs ds e h k = (
    same_lefts f.variables u.at (take (length f.variables) cs) (take (length f.variables) ds) (first_alike (length f.variables) cs ds h) k.0,
    (all_forms (drop (length f.variables) cs) (drop (length f.variables) ds) (others_alike (length f.variables) cs ds h) k.1.0, k.1.1),
  )

  same_match : (o : Option Definition) (cs ds : List Coordinate) (e : Term) → Alike cs ds → MatchOption o ⊥ (λ d. IsDefinition a p outline d cs e) → MatchOption o ⊥ (λ d. IsDefinition a p
      outline d ds e)
  same_match None cs ds e h k = k
  same_match (Some d) cs ds e h k = same_definition d cs ds e h k

-- ---- who owns nests

append_all : {A : Type 0} (P : A → Type 0) (xs ys : List A) → AllByRecursion P xs → AllByRecursion P ys → AllByRecursion P (xs ++ ys)
append_all P [] ys h k = k
append_all P (x ∷ xs) ys h k = (h.0, append_all P xs ys h.1 k)

-- what is so of each pair is so of what a number stands for
module _ (P : ℕ → ℕ → Type 0) where
  abbrev ValueHas : ℕ → Option ℕ → Type 0
  ValueHas k o = (b : ℕ) → o ≡ Some b → P k b

  value_has : (ps : Pairs) (k : ℕ) (o : Option ℕ) → AllByRecursion (λ s. P s.0 s.1) ps → ValueHas k o → ValueHas k (last_value o ps k)
  value_has [] k o h v = v
  value_has (s ∷ ps) k o h v = of (s.0 == k) refl (value_has ps k (Some s.1) h.1) (value_has ps k o h.1 v)
    where
      of : (t : Bool) → (s.0 == k) ≡ t → (ValueHas k (Some s.1) → ValueHas k (last_value (Some s.1) ps k)) → ValueHas k (last_value o ps k) →
          ValueHas k (if t then last_value (Some s.1) ps k else last_value o ps k)
      of true e now later = now (λ b q. let n : s.0 ≡ k = grind (arith, nat_tests, e) in subst (λ (c : ℕ). P k c) (same s.1 b q) (subst (λ (j : ℕ). P j s.1) n h.0))
      of false e now later = later

  pub value_is : (ps : Pairs) (k b : ℕ) → AllByRecursion (λ s. P s.0 s.1) ps → value_in ps k ≡ Some b → P k b
  value_is ps k b h e = value_has ps k None h (λ c q. absurd (cc q)) b e

module _ (a : Algorithm) (sch : Schedule) (l : Lowered) (well : IsAlgorithm a) (free : NamesNoLoad a) (input : (plan_of l.plan).input.name ≡ a.input)
    (few : length l.certificate.claims.items < 2 ^ 64) (marked : stored_in a (plan_of l.plan) ≡ flags (subjects a sch)) (number : ℕ) (q : CodeGroup) (first : ℕ) (inners : List PlacedText) where
  abbrev items : List CodeClaim
  items = l.certificate.claims.items

  abbrev p : Plan
  p = plan_of l.plan

  abbrev c : Certificate
  c = certificate_of l.certificate

  abbrev st : List Bool
  st = flags (subjects a sch)

  abbrev gs : List StoredText
  gs = stored_functions a sch

  abbrev text : Function → StoredText
  text f = stored_by a st f.variables f.value f.changes (subject_said a sch f) (loops_after (said sch) f)

  abbrev outline : Outline
  outline = outline_of p c number (group_of q)

  abbrev T : ℕ → List ℕ
  T b = function_in (allocated (statement_of q.body) b)

  abbrev Another : Statement → Type 0
  Another s = StoresAnother a p outline s

  -- ---- claims and loads

  abbrev pub IsClaimIn : List ℕ → ℕ → Type 0
  IsClaimIn x k = (w : Claim) × (slice_get c.claims k ≡ Some w) × (w.function ≡ x)

  abbrev pub AreLoads : Loads → Type 0
  AreLoads ls = AllByRecursion (λ m. IsClaimIn m.0 m.1) ls

  are_claims : (ls : Loads) → AreLoads ls → AreClaims items ls
  are_claims [] h = tt
  are_claims (m ∷ ls) h =
      let w = h.0 in
      let v = from_map claim_of items m.1 w.0 w.1 in
      ((v.0, v.1, ap (λ (u : Claim). u.function) (sym v.2) ∙ w.2), are_claims ls h.1)

  -- ---- stores

  right_store : (place : ℕ) (f : Function) → slice_get a.functions place ≡ Some f → (fs : List FormulaText) (ns : List NestText) (b : ℕ) → T b ≡ (text f).subject.name → (text f).formulas ≡ Some fs →
      HaveShapes (text f) fs ns → (d : ℕ) (n : NestText) → slice_get ns d ≡ Some n → (ls : Loads) → AreLoads ls → (u : FormulaText) → slice_get fs d ≡ Some u → (own cs : List Coordinate) →
      AreCoordinates ls (names_with (text f).variables (text f).changes d) n.at u.at own → Alike own cs → Clear Another (Store b d cs (with_calls (as_load ls) u.value))
  right_store place f at fs ns b seat defined shapes d n there ls loads u formula own cs are alike other =
      let e = with_calls (as_load ls) u.value in
      let right = of_definition a well free p c number (group_of q) input items refl few st marked ls (are_claims ls loads) place f at fs defined (text f).subject.reductions d n (shapes d n
      there).shape own e
      u formula (record { at = are; value = refl }) in
      let moved = same_match a p outline (definition_in (Some (parts_of f)) d) own cs e alike right in
      let parts : parts_named a f.name ≡ Some (parts_of f) = ap (λ (o : Option Function). option_map parts_of o) (named_here a well place f at) in
      let wrong_named = subst (λ (x : List ℕ). MatchOption (definition_in (parts_named a x) d) ⊥ (λ D. ¬ IsDefinition a p outline D cs e)) seat other.2 in
      let wrong_here = subst (λ (o : Option _). MatchOption (definition_in o d) ⊥ (λ D. ¬ IsDefinition a p outline D cs e)) parts wrong_named in
      both_match (λ D. IsDefinition a p outline D cs e) (definition_in (Some (parts_of f)) d) moved wrong_here

  -- the buffer is of the function, which is a stored one with these definitions, of which the nests are
  pub record IsOwner (o : OwnerText) (ns : List NestText) : Type 0 where
    pub seat : T o.buffer ≡ o.function.subject.name
    pub place : ℕ
    pub at : slice_get gs place ≡ Some o.function
    pub defined : o.function.formulas ≡ Some o.formulas
    pub shapes : HaveShapes o.function o.formulas ns

  store_clear : (o : OwnerText) (ns : List NestText) → IsOwner o ns → (d : ℕ) (n : NestText) → slice_get ns d ≡ Some n → (ls : Loads) → AreLoads ls → (m : Pairs) (at : List (Option Form))
      (s : Statement) →
      coordinates_renamed m n.at ≡ Some at → store_in o ls d at ≡ Some s → Clear Another s
  store_clear o ns h d n there ls loads m at s renamed e =
      let w = store_is o ls d at s e in
      let z = behind_is (at_renamed m) [] n.at at renamed in
      let each = subst (Each (at_renamed m) n.at) z.is z.each in
      let v = found a sch st o.function a.functions h.place h.at in
      let coordinates = given ls m (names_with o.function.variables o.function.changes d) n.at at w.formula.at w.coordinates each w.given in
      subst (Clear Another) (sym w.is) (of v.place v.function v.at o.function v.is h.seat h.defined h.shapes w.formula w.there coordinates.own w.coordinates coordinates.are coordinates.alike)
    where
      of : (place : ℕ) (f : Function) → slice_get a.functions place ≡ Some f → (g : StoredText) → g ≡ text f → T o.buffer ≡ g.subject.name → g.formulas ≡ Some o.formulas → HaveShapes g o.formulas ns →
          (u : FormulaText) → slice_get o.formulas d ≡ Some u → (own cs : List Coordinate) → AreCoordinates ls (names_with g.variables g.changes d) n.at u.at own → Alike own cs →
          Clear Another (Store o.buffer d cs (with_calls (as_load ls) u.value))
      of place f at g e seat defined shapes u formula own cs are alike =
          right_store place f at o.formulas ns o.buffer (seat ∙ ap (λ (v : StoredText). v.subject.name) e) (ap (λ (v : StoredText). v.formulas) (sym e) ∙ defined)
          (subst (λ (v : StoredText). HaveShapes v o.formulas ns) e shapes) d n there ls loads u formula own cs
          (subst (λ (v : StoredText). AreCoordinates ls (names_with v.variables v.changes d) n.at u.at own) e are) alike

  -- ---- piece by piece

  -- each buffer of a function that is computed inside is of that function
  abbrev pub HasSeat : ℕ → ℕ → Type 0
  HasSeat n b = (i : PlacedText) → slice_get inners n ≡ Some i → T b ≡ i.function.subject.name

  abbrev pub AreSeated : SoFar → Type 0
  AreSeated s = AllByRecursion (λ x. HasSeat x.0 x.1) s.seats

  -- claims are numbered from the group's first one on, and are those of the certificate
  abbrev pub IsCounted : SoFar → Type 0
  IsCounted s = s.claim ≡ first + length s.claims

  abbrev pub AreNumbered : SoFar → Type 0
  AreNumbered s = (j : ℕ) (w : Claim) → slice_get s.claims j ≡ Some w → slice_get c.claims (first + j) ≡ Some w

  -- of what was made so far these lines make this, and store definitions
  pub record IsRight (s : SoFar) (xs : List Statement) (t : SoFar) : Type 0 where
    pub more : List Claim
    pub grown : t.claims ≡ s.claims ++ more
    pub counted : t.claim ≡ s.claim + length more
    pub seated : AreSeated t
    pub clear : IsCounted s → AreNumbered t → AreLoads s.loads → AreLoads t.loads × ClearAll Another (block xs)

  abbrev pub Right : Lines
  Right f m s xs t = AreSeated s → AgreeAll T (block xs) → IsRight s xs t

  joined_long : {A : Type 0} (xs ys : List A) → length (xs ++ ys) ≡ length xs + length ys
  joined_long [] ys = omega arith
  joined_long (x ∷ xs) ys = (let rest = joined_long xs ys in omega (arith, rest))

  joined_again : {A : Type 0} (xs ys zs : List A) → (xs ++ ys) ++ zs ≡ xs ++ (ys ++ zs)
  joined_again [] ys zs = refl
  joined_again (x ∷ xs) ys zs = ap (λ (ws : List _). x ∷ ws) (joined_again xs ys zs)

  nothing_more : (s : SoFar) → AreSeated s → IsRight s [] s
  nothing_more s seated = record {
    more = [];
    grown = sym (nothing_behind s.claims);
    counted = omega arith;
    seated = seated;
    clear = λ counted numbered loads. (loads, tt);
  }

  one_more : (s t u : SoFar) (xs ys : List Statement) → IsRight s xs t → IsRight t ys u → IsRight s (xs ++ ys) u
  one_more s t u xs ys h k =
      let long = joined_long h.more k.more in
      let one = h.counted in
      let two = k.counted in
      record {
        more = h.more ++ k.more;
        grown = k.grown ∙ ap (λ (ws : List Claim). ws ++ k.more) h.grown ∙ joined_again s.claims h.more k.more;
        counted = omega (arith, one, two, long);
        seated = k.seated;
        clear = λ counted numbered loads.
            let before : AreNumbered t = λ j w at. numbered j w (ap (λ (ws : List Claim). slice_get ws j) k.grown ∙ at_left t.claims k.more j w at) in
            let a = h.clear counted before loads in
            let count : IsCounted t = (let l = joined_long s.claims h.more in let g = ap length h.grown in omega (arith, one, l, g, counted)) in
            let b = k.clear count numbered a.0 in
            (b.0, joined_clear Another xs ys a.1 b.1);
      }

  -- lines and symbols do not matter
  at_symbol : (o : Option ℕ) (s t : SoFar) (xs : List Statement) (n : ℕ) → IsRight (with_lines 1 (with_symbol o s)) xs t → IsRight s xs (with_lines n t)
  at_symbol None s t xs n h = record { more = h.more; grown = h.grown; counted = h.counted; seated = h.seated; clear = h.clear }
  at_symbol (Some i) s t xs n h = record { more = h.more; grown = h.grown; counted = h.counted; seated = h.seated; clear = h.clear }

  at_lines : (o : Option ℕ) (s t : SoFar) (xs : List Statement) → IsRight (with_lines 1 (with_symbol o s)) xs t → IsRight s xs t
  at_lines None s t xs h = record { more = h.more; grown = h.grown; counted = h.counted; seated = h.seated; clear = h.clear }
  at_lines (Some i) s t xs h = record { more = h.more; grown = h.grown; counted = h.counted; seated = h.seated; clear = h.clear }

  seated_inside : (o : Option ℕ) (s : SoFar) → AreSeated s → AreSeated (with_lines 1 (with_symbol o s))
  seated_inside None s h = h
  seated_inside (Some i) s h = h

  agree_inside : (t : Step) (xs : List Statement) → AgreeAll T (block (around t xs)) → AgreeAll T (block xs)
  agree_inside (Turns i x kind) xs h = h.0
  agree_inside (Named i pick fs) xs h = h.1
  agree_inside (Tested low high) xs h = h.0

  clear_around : (t : Step) (xs : List Statement) → ClearAll Another (block xs) → ClearAll Another (block (around t xs))
  clear_around (Turns i x kind) xs h = ((λ e. e, h), tt)
  clear_around (Named i pick fs) xs h = (λ e. e, h)
  clear_around (Tested low high) xs h = ((λ e. e, h), tt)

  by_step : (t : Step) (s u : SoFar) (xs : List Statement) → IsRight s xs u → IsRight s (around t xs) u
  by_step t s u xs h = record {
    more = h.more;
    grown = h.grown;
    counted = h.counted;
    seated = h.seated;
    clear = λ counted numbered loads. let k = h.clear counted numbered loads in (k.0, clear_around t xs k.1);
  }

  by_lets : (ss : List Step) (m : Pairs) (s : SoFar) (x : List Statement × (Pairs × SoFar)) → lets ss m s ≡ Some x → AreSeated s → IsRight s x.0 x.1.1
  by_lets [] m s x e seated = subst (λ (y : List Statement × (Pairs × SoFar)). IsRight s y.0 y.1.1) (same ([], (m, s)) x e) (nothing_more s seated)
  by_lets (t ∷ ss) m s x e seated =
      let names = with_name (bound_by t) s.symbol m in
      let inside = with_lines 1 (with_symbol (bound_by t) s) in
      let b = bound (step_renamed names t) (λ u. lets ss names inside >>= λ x. Some (around u x.0, x.1)) x e in
      let k = bound (lets ss names inside) (λ x. Some (around b.value x.0, x.1)) x b.comes in
      let rest = by_lets ss names inside k.value k.is (seated_inside (bound_by t) s seated) in
      subst (λ (y : List Statement × (Pairs × SoFar)). IsRight s y.0 y.1.1) (same (around b.value k.value.0, k.value.1) x k.comes)
      (by_step b.value s k.value.1.1 k.value.0 (at_lines (bound_by t) s k.value.1.1 k.value.0 rest))

  by_choice : (i : ℕ) (s t u : SoFar) (us vs : List Statement) → IsRight (with_lines 1 s) us t → IsRight (with_lines 1 t) vs u → IsRight s (choice i us vs) (with_lines 1 u)
  by_choice i s t u us vs h k =
      let one = one_more s t u us vs (record { more = h.more; grown = h.grown; counted = h.counted; seated = h.seated; clear = h.clear })
      (record { more = k.more; grown = k.grown; counted = k.counted; seated = k.seated; clear = k.clear }) in
      record {
        more = one.more;
        grown = one.grown;
        counted = one.counted;
        seated = one.seated;
        clear = λ counted numbered loads. let all = one.clear counted numbered loads in (all.0, ((λ e. e, clear_first us vs all.1, clear_second us vs all.1), tt));
      }
    where
      clear_first : (xs ys : List Statement) → ClearAll Another (block (xs ++ ys)) → ClearAll Another (block xs)
      clear_first [] ys h = tt
      clear_first (x ∷ xs) ys h = (h.0, clear_first xs ys h.1)

      clear_second : (xs ys : List Statement) → ClearAll Another (block (xs ++ ys)) → ClearAll Another (block ys)
      clear_second [] ys h = h
      clear_second (x ∷ xs) ys h = clear_second xs ys h.1

  stores_right : (o : OwnerText) (ns : List NestText) (s : SoFar) (d : ℕ) (n : NestText) (m : Pairs) (at : List (Option Form)) (t : Statement) → IsOwner o ns → slice_get ns d ≡ Some n →
      coordinates_renamed m n.at ≡ Some at → store_in o s.loads d at ≡ Some t → AreSeated s → IsRight s (t ∷ []) (with_lines 1 s)
  stores_right o ns s d n m at t owns there renamed e seated = record {
    more = [];
    grown = sym (nothing_behind s.claims);
    counted = omega arith;
    seated = seated;
    clear = λ counted numbered loads. (loads, (store_clear o ns owns d n there s.loads loads m at t renamed e, tt));
  }

  claims_right : (o : OwnerText) (s : SoFar) (d : ℕ) (r : List Span1) → AreSeated s → IsRight s [] (with_claim o d r s)
  claims_right o s d r seated =
      let w : Claim = record { line = s.line - 1; buffer = o.buffer; function = o.function.subject.name; definition = d; region = r } in
      record {
        more = w ∷ [];
        grown = refl;
        counted = refl;
        seated = seated;
        clear = λ counted numbered loads. (
          append_all (λ x. IsClaimIn x.0 x.1) s.loads ((o.function.subject.name, s.claim) ∷ []) loads
              ((w, ap (slice_get c.claims) counted ∙ numbered (length s.claims) w (last_get s.claims w), refl), tt),
          tt,
        );
      }
    where
      last_get : (ws : List Claim) (w : Claim) → slice_get (ws ++ w ∷ []) (length ws) ≡ Some w
      last_get [] w = refl
      last_get (v ∷ ws) w = last_get ws w

  seats_right : (s : SoFar) (n : ℕ) (i : PlacedText) (places : List Places) → slice_get inners n ≡ Some i → AreSeated s → AgreeAll T (block (Alloc s.buffer i.function.subject.name places ∷ [])) →
      IsRight s (Alloc s.buffer i.function.subject.name places ∷ []) (record s { line = s.line + 1; buffer = s.buffer + 1; seats = s.seats ++ (n, s.buffer) ∷ [] })
  seats_right s n i places at seated agree = record {
    more = [];
    grown = sym (nothing_behind s.claims);
    counted = omega arith;
    seated = append_all (λ x. HasSeat x.0 x.1) s.seats ((n, s.buffer) ∷ []) seated (λ j there. agree.0 ∙ ap (λ (k : PlacedText). k.function.subject.name) (same i j (sym at ∙ there)), tt);
    clear = λ counted numbered loads. (loads, (λ e. e, tt));
  }

  windows_right : (s t : SoFar) (n : ℕ) (i : PlacedText) (k : LaterText) (m : Pairs) → held i k m s ≡ Some t → AreSeated s → IsRight s [] t
  windows_right s t n i k m e seated =
      let w = held_is i k m s t e in
      let none = nothing_more s seated in
      subst (IsRight s []) w.1 (record { more = none.more; grown = none.grown; counted = none.counted; seated = none.seated; clear = none.clear })

  owners_right : (known : (n : ℕ) (i : PlacedText) → slice_get inners n ≡ Some i → IsInner gs i) (s : SoFar) (n : ℕ) (i : PlacedText) (b : ℕ) → slice_get inners n ≡ Some i →
      value_in s.seats n ≡ Some b → AreSeated s → IsOwner (owner (Inside n) i b) i.nests × ((k : LaterText) → i.later ≡ Some k → IsOwner (owner (Anew n) i b) k.nests)
  owners_right known s n i b at seat seated =
      let inner = known n i at in
      let told = value_is HasSeat s.seats n b seated seat i at in
      let place = ap (λ (g : StoredText). Some g) (sym inner.function) in
      let stands : slice_get gs inner.stored.place ≡ Some i.function = inner.stored.at ∙ place in
      let defined : i.function.formulas ≡ Some i.formulas =
      ap (λ (g : StoredText). g.formulas) inner.function ∙ inner.stored.defined ∙ ap (λ (fs : List FormulaText). Some fs) (sym inner.formulas) in (
        record { seat = told; place = inner.stored.place; at = stands; defined = defined; shapes = inner.shapes },
        λ k later. record { seat = told; place = inner.stored.place; at = stands; defined = defined; shapes = inner.later k later },
      )

  slides_right : (s t u : SoFar) (i : ℕ) (ks js ls : List Step) (m n o : Pairs) (x y z : List Statement × (Pairs × SoFar)) (us vs : List Statement) → lets ks m s ≡ Some x → lets js n x.1.1 ≡ Some y →
      lets ls o y.1.1 ≡ Some z → (AreSeated (with_lines 1 z.1.1) → AgreeAll T (block us) → IsRight (with_lines 1 z.1.1) us t) →
      (AreSeated (with_lines 1 t) → AgreeAll T (block vs) → IsRight (with_lines 1 t) vs u) → AreSeated s → AgreeAll T (block (x.0 ++ (y.0 ++ (z.0 ++ choice i us vs)))) →
      IsRight s (x.0 ++ (y.0 ++ (z.0 ++ choice i us vs))) (with_lines 1 u)
  slides_right s t u i ks js ls m n o x y z us vs one two three first_turn others seated agree =
      let chosen = choice i us vs in
      let a = by_lets ks m s x one seated in
      let b = by_lets js n x.1.1 y two a.seated in
      let d = by_lets ls o y.1.1 z three b.seated in
      let inside = (agree_second T z.0 chosen (agree_second T y.0 (z.0 ++ chosen) (agree_second T x.0 (y.0 ++ (z.0 ++ chosen)) agree))).0 in
      let f = first_turn d.seated inside.0 in
      let g = others f.seated inside.1 in
      one_more s x.1.1 (with_lines 1 u) x.0 (y.0 ++ (z.0 ++ chosen)) a
      (one_more x.1.1 y.1.1 (with_lines 1 u) y.0 (z.0 ++ chosen) b (one_more y.1.1 z.1.1 (with_lines 1 u) z.0 chosen d (by_choice i z.1.1 t u us vs f g)))

  pub right_each : ((n : ℕ) (i : PlacedText) → slice_get inners n ≡ Some i → IsInner gs i) → HoldsOfEach inners (λ f s. Unit {0}) (λ s. Unit {0}) IsOwner Right
  right_each known = record {
    none = λ f m s seated agree. nothing_more s seated;
    both = λ f m s t u xs ys h k seated agree. let a = h seated (agree_first T xs ys agree) in one_more s t u xs ys a (k a.seated (agree_second T xs ys agree));
    step = λ f m s t xs x y good e h seated agree.
        let inside = h (seated_inside (bound_by x) s seated) (agree_inside y xs agree) in
        by_step y s (with_lines (own_lines y - 1) t) xs (at_symbol (bound_by x) s t xs (own_lines y - 1) inside);
    named = λ f m s t ss x ys good e h seated agree. let a = by_lets ss m s x e seated in one_more s x.1.1 t x.0 ys a (h a.seated (agree_second T x.0 ys agree));
    store = λ f m s o ns d n at t owns there renamed e seated agree. stores_right o ns s d n m at t owns there renamed e seated;
    apart = λ f m s t xs h seated agree. let a = h seated agree in record {
      more = a.more;
      grown = a.grown;
      counted = a.counted;
      seated = a.seated;
      clear = λ counted numbered loads. (loads, (a.clear counted numbered loads).1);
    };
    claim = λ f m s o ns d n r owns there e seated agree. claims_right o s d r seated;
    seat = λ f m s n i places at e seated agree. seats_right s n i places at seated agree;
    own = λ f m s t n i b xs at seat h seated agree. let o = owners_right known s n i b at seat seated in h o.0 o.1 seated agree;
    slide = λ f m s t u n j k all new i x y z us vs at later place symbol one two three h g seated agree.
        slides_right s t u i (Named k.new Min k.first_new ∷ []) (take (let_count all.steps) all.steps) (take (let_count new.steps) new.steps) m m x.1.0 x y z us vs one two three h g seated agree;
    window = λ f m s t n i k at later e seated agree. windows_right s t n i k m e seated;
  }
