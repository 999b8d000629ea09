-- Plain plans are accepted.
use Rattle.std.proofs.Common.{◌≡◌, ℕ, suc, ◌+◌, ◌-◌, Bool, true, false, List, [], ◌∷◌, map, Option, Some, None, refl, sym, ap, ◌∙◌, subst, inl, inr, arith}
use Rattle.std.specs.Prelude.{◌==◌, ◌⊎◌, ◌&&◌, not, if◌then◌else◌, filter, flat_map, take, drop}
use Rattle.std.specs.List.{list_any, list_all}
use Rattle.lin.specs.Forms.{is_within_limits}
use Rattle.lin.specs.declared.span.Span1.{Span1}
use Rattle.meaning.specs.Algorithm.{Algorithm}
use Rattle.meaning.specs.Names.{same_name}
use Rattle.plan.specs.declared.stmt.Places.{Places}
use Rattle.plan.specs.Lines.{lines, body_line}
use Rattle.plan.specs.Plan.{Statement, Seq, For, Let, First, Guard, Alloc, Fetch, Store, Publish, Statements, Empty, Then}
use Rattle.plan.specs.Certificate.Certificate.{Claim}
use Rattle.soundness.specs.Claims.{In, updates, writes}
use Rattle.soundness.specs.Obligations.{Binder, Known, Rules, Named, Inside, InTurn, Obligation, NotMade, turn_code, turn_line, obligation, places_of, has_symbol, region_of, follows, within, in_block, in_loop, onwards, made, claim_obligations, kept_of, turn_obligations, block_obligations}
use Rattle.soundness.specs.Given.{outline_of}
use Rattle.soundness.specs.Origins.{Outline, or_same}
use Rattle.soundness.specs.Shown.{is_within, are_within, Nests, shows, is_shown, start}
use Rattle.soundness.proofs.Refines.{and_parts, name_refl}
use Rattle.soundness.proofs.Kept.{none_kept}
use Rattle.soundness.specs.Nests.Laws.{domains_of}
use Rattle.soundness.specs.Nests.Plain.{SaysSame, is_small, PlainNestsAreAccepted}
use Rattle.tails.specs.Nests.{split_nests, PlainNestsAreTaken}
use Rattle.tails.specs.Windows.Nests.{slid_nests}
use Rattle.audit.specs.Verdict.Shown.Plain.{AreInside, IsOfNest, IsOfFetch, IsOfUpdate, IsPlainClaim, IsPlain, IsPlainBlock, PlainIsShown, PlainIsAccepted}
use Rattle.soundness.specs.Binders.View.{grid_binders}
use Rattle.audit.proofs.OfVerdict.Bools.{both, all_both, all_in, any_has, all_have, and_false, first_of, when}
use Rattle.audit.proofs.OfVerdict.Nest.{nest_does}
use Rattle.audit.proofs.OfVerdict.Loads.{places_shown, store_shown}

name_same : (m n : List ℕ) → m ≡ n → same_name m n ≡ true
name_same m n e = ap (same_name m) (sym e) ∙ name_refl m

module _ (accepted : PlainNestsAreAccepted) (taken : PlainNestsAreTaken) (rules : Rules) (a : Algorithm) (outline : Outline) (same : SaysSame rules) (none : outline.windows ≡ []) where
  abbrev tests : Nests
  tests = slid_nests outline rules (domains_of a)

  abbrev test : Obligation → Bool
  test = is_shown rules tests

  abbrev AreShown : List Obligation → Type 0
  AreShown os = list_all test os ≡ true

  -- ---- spans inside spans
  within_same : (bs : List Binder) (x : Span1) → is_small x ≡ true → is_within rules bs x x ≡ true
  within_same bs x h =
      let k = and_parts (list_all is_within_limits x.lower) (list_all is_within_limits x.upper) h in
      both (list_all (λ m. list_any (λ l. rules.at_most bs m l) x.lower) x.lower) (list_all (λ m. list_any (λ u. rules.at_most bs u m) x.upper) x.upper)
      (all_have (λ m. list_any (λ l. rules.at_most bs m l) x.lower) x.lower (λ m n. any_has (λ l. rules.at_most bs m l) m x.lower n (same bs m (all_in is_within_limits m x.lower n k.0))))
      (all_have (λ m. list_any (λ u. rules.at_most bs u m) x.upper) x.upper (λ m n. any_has (λ u. rules.at_most bs u m) m x.upper n (same bs m (all_in is_within_limits m x.upper n k.1))))

  inside_within : (bs : List Binder) (xs ys : List Span1) → AreInside rules bs xs ys → are_within rules bs xs ys ≡ true
  inside_within bs [] [] h = refl
  inside_within bs [] (y ∷ ys) h = absurd h
  inside_within bs (x ∷ xs) [] h = absurd h
  inside_within bs (x ∷ xs) (y ∷ ys) h = both (is_within rules bs x y) (are_within rules bs xs ys) (one h.0) (inside_within bs xs ys h.1)
    where
      one : ((x ≡ y) × (is_small x ≡ true)) ⊎ (is_within rules bs x y ≡ true) → is_within rules bs x y ≡ true
      one (inl k) = subst (λ z. is_within rules bs x z ≡ true) k.0 (within_same bs x k.1)
      one (inr k) = k

  -- ---- what is asked of a claim
  module _ (first last : ℕ) (known : Known) (b : Statement) (c : ℕ) where
    abbrev claim : Claim
    claim = outline.claim c

    abbrev updating : Bool
    updating = updates outline.setting b claim.buffer claim.function

    abbrev Asked : Type 0
    Asked = AreShown (claim_obligations outline rules [] first last known b c)

    abbrev MadeFrom : Bool → List Places → Type 0
    MadeFrom v places = tests.is_made known.binders c (if v then Some (claim.definition - 1) else None) places b ≡ true

    -- what the tests of plain and of split nests take is taken with folded buffers beside them
    stays : (from : Option ℕ) (places : List Places) → (split_nests outline rules (domains_of a)).is_made known.binders c from places b ≡ true → tests.is_made known.binders c from places b ≡ true
    stays from places h = first_of ((split_nests outline rules (domains_of a)).is_made known.binders c from places b) _ h

    is_made : (places : List Places) → places_of known.buffers claim.buffer ≡ Some places → MadeFrom updating places → shows rules tests known.binders (made outline rules (places_of known.buffers claim.buffer) c b) ≡ true
    is_made places e h = ap (λ (o : Option (List Places)). shows rules tests known.binders (made outline rules o c b)) e ∙ h

    abbrev earlier : Bool → List Obligation
    earlier v =
        if v then
        obligation outline rules NotMade (rules.claim_line c) known (Named (list_any (λ d. follows outline rules d c) known.own))
        ∷ obligation outline rules (turn_code (turn_line outline rules b first c)) (or_same (turn_line outline rules b first c) (rules.claim_line c)) known (InTurn c b)
        ∷ map (λ d. obligation outline rules NotMade (rules.claim_line c) known (Inside (region_of outline rules c) (region_of outline rules d))) (filter (λ d. follows outline rules d c) known.own)
        else []

    asked : (places : List Places) (v : Bool) → places_of known.buffers claim.buffer ≡ Some places → writes outline.setting b claim.buffer claim.function ≡ true → updating ≡ v →
        MadeFrom v places → AreShown (earlier v) → Asked
    asked places v e written is making before =
        both (writes outline.setting b claim.buffer claim.function) _ written
        (both (shows rules tests known.binders (made outline rules (places_of known.buffers claim.buffer) c b)) _ (is_made places e (subst (λ w. MadeFrom w places) (sym is) making))
        (subst (λ w. AreShown (earlier w)) (sym is) before))

    of_nest : (places : List Places) → places_of known.buffers claim.buffer ≡ Some places → IsOfNest rules a outline known.binders places b claim → Asked
    of_nest places e is =
        let d = nest_does outline.setting b claim.buffer claim.function (record { loops = is.loops; line = Store is.buffer 0 is.at is.value }) is.nest in
        let named = name_same (outline.setting.buffer_function is.buffer) claim.function is.plain.function in
        asked places false e (d.written ∙ when (is.buffer == claim.buffer) (same_name (outline.setting.buffer_function is.buffer) claim.function) named)
        (d.updated ∙ ap (λ v. if v then same_name (outline.setting.buffer_function is.buffer) claim.function && false else true) d.changed ∙ and_false (same_name (outline.setting.buffer_function is.buffer) claim.function))
        (stays None places ((taken outline rules (domains_of a)).made known.binders c None places b ((accepted outline rules (domains_of a) same known.binders c places b is.loops).nest is.buffer is.at is.value is.nest is.plain))) refl

    of_fetch : (places : List Places) → places_of known.buffers claim.buffer ≡ Some places → IsOfFetch rules a outline known.binders places b claim → Asked
    of_fetch places e is =
        let d = nest_does outline.setting b claim.buffer claim.function (record { loops = []; line = Fetch is.buffer is.group is.region }) is.nest in
        let named = name_same (outline.setting.group_function is.group) claim.function is.plain.function in
        asked places false e (d.written ∙ when (is.buffer == claim.buffer) (same_name (outline.setting.group_function is.group) claim.function) named)
        (d.updated ∙ ap (λ v. if v then false else true) d.changed)
        (stays None places ((taken outline rules (domains_of a)).made known.binders c None places b ((accepted outline rules (domains_of a) same known.binders c places b []).fetch is.buffer is.group is.region is.nest is.plain))) refl

    abbrev lies_in : ℕ → Obligation
    lies_in d = obligation outline rules NotMade (rules.claim_line c) known (Inside (region_of outline rules c) (region_of outline rules d))

    all_inside : (ds : List ℕ) → ((d : ℕ) → In d ds → follows outline rules d c ≡ true → AreInside rules known.binders claim.region (outline.claim d).region) →
        AreShown (map lies_in (filter (λ d. follows outline rules d c) ds))
    all_inside [] h = refl
    all_inside (d ∷ ds) h = at (follows outline rules d c) refl (all_inside ds (λ x m. h x (inr m)))
      where
        at : (v : Bool) → follows outline rules d c ≡ v → AreShown (map lies_in (filter (λ d. follows outline rules d c) ds)) →
            AreShown (map lies_in (if v then d ∷ filter (λ d. follows outline rules d c) ds else filter (λ d. follows outline rules d c) ds))
        at true e k = both (are_within rules known.binders claim.region (outline.claim d).region) _ (inside_within known.binders claim.region (outline.claim d).region (h d (inl refl) e)) k
        at false e k = k

    of_update : (places : List Places) → places_of known.buffers claim.buffer ≡ Some places → IsOfUpdate rules a outline known b c → Asked
    of_update places e is =
        let d = nest_does outline.setting b claim.buffer claim.function (record { loops = is.loops; line = Store is.buffer (suc is.update) is.at is.value }) is.nest in
        let named = name_same (outline.setting.buffer_function is.buffer) claim.function is.plain.function in
        let yes = (accepted outline rules (domains_of a) same known.binders c places b is.loops).update is.buffer is.update is.at is.value is.nest is.plain in
        let defined = is.plain.definition in
        let before : claim.definition - 1 ≡ is.update = omega (arith, defined) in
        asked places true e (d.written ∙ when (is.buffer == claim.buffer) (same_name (outline.setting.buffer_function is.buffer) claim.function) named)
        (d.updated ∙ when (is.buffer == claim.buffer) (same_name (outline.setting.buffer_function is.buffer) claim.function && true) (both _ true named refl))
        (ap (λ k. tests.is_made known.binders c (Some k) places b) before ∙ stays (Some is.update) places ((taken outline rules (domains_of a)).made known.binders c (Some is.update) places b yes.0))
        (both (list_any (λ d. follows outline rules d c) known.own) _ is.before
        (both (tests.is_in_turn known.binders c b) _ ((taken outline rules (domains_of a)).in_turn known.binders c b yes.1) (all_inside known.own is.inside)))

    pub claim_asked : IsPlainClaim rules a outline known b c → Asked
    claim_asked is = of is.made
      where
        of : IsOfNest rules a outline known.binders is.places b claim ⊎ (IsOfFetch rules a outline known.binders is.places b claim ⊎ IsOfUpdate rules a outline known b c) → Asked
        of (inl k) = of_nest is.places is.stand k
        of (inr (inl k)) = of_fetch is.places is.stand k
        of (inr (inr k)) = of_update is.places is.stand k

  claims_asked : (first last : ℕ) (known : Known) (b : Statement) (cs : List ℕ) → ((c : ℕ) → In c cs → IsPlainClaim rules a outline known b c) →
      AreShown (flat_map (claim_obligations outline rules [] first last known b) cs)
  claims_asked first last known b [] h = refl
  claims_asked first last known b (c ∷ cs) h =
      all_both test (claim_obligations outline rules [] first last known b c) (flat_map (claim_obligations outline rules [] first last known b) cs)
      (claim_asked first last known b c (h c (inl refl))) (claims_asked first last known b cs (λ d m. h d (inr m)))

  -- ---- what is asked of a statement
  mutual
    pub plain_shown : (b : Statement) (line : ℕ) (known : Known) → IsPlain rules a outline b line known → AreShown (turn_obligations outline rules [] b line known)
    plain_shown (Seq all) line known h = block_shown all line (in_block outline rules known) h
    plain_shown (For i x kind body) line known h =
        let inner = in_loop outline rules i x body known in
        both (not (has_symbol outline rules i x known)) (list_all test (turn_obligations outline rules (kept_of outline rules i body (line + 1)) body (line + 1) inner)) (ap not h.1)
        (subst (λ ws. AreShown (turn_obligations outline rules ws body (line + 1) inner)) (sym (none_kept outline rules i body (line + 1) none))
        (plain_shown body (line + 1) inner h.2))
    plain_shown (Let i pick forms) line known h = absurd h
    plain_shown (First i b c) line known h = absurd h
    plain_shown (Guard low high body) line known h = absurd h
    plain_shown (Alloc b f places) line known h = both _ true h.0 refl
    plain_shown (Fetch b g region) line known h = both _ true (places_shown rules a outline known b region h) refl
    plain_shown (Store b k at e) line known h =
        let n = outline.setting.dimensions b in store_shown rules a outline line known b (outline.setting.buffer_function b) k (take n at) (drop n at) e h
    plain_shown (Publish c) line known h = both _ _ h.used (both _ true h.inside refl)

    block_shown : (all : Statements) (line : ℕ) (known : Known) → IsPlainBlock rules a outline all line known → AreShown (block_obligations outline rules [] all line known)
    block_shown Empty line known h = refl
    block_shown (Then b rest) line known h =
        let last = line + lines b - 1 in
        let next = outline.named last in
        all_both test (turn_obligations outline rules [] b line (within outline rules b next known)) _ (plain_shown b line (within outline rules b next known) h.0)
        (all_both test (flat_map (claim_obligations outline rules [] line last known b) next) (block_obligations outline rules [] rest (line + lines b) (onwards outline rules b next known))
        (claims_asked line last known b next h.1) (block_shown rest (line + lines b) (onwards outline rules b next known) h.2))

pub plain_is_shown : PlainNestsAreAccepted → PlainNestsAreTaken → PlainIsShown
plain_is_shown accepted taken rules a outline same none b line known h = plain_shown accepted taken rules a outline same none b line known h

pub plain_is_accepted : PlainNestsAreAccepted → PlainNestsAreTaken → PlainIsAccepted
plain_is_accepted accepted taken rules a p c same is = record {
  head = is.head;
  lines = is.lines;
  shown = λ n g e. plain_shown accepted taken (rules n) a (outline_of p c n g) (same n) is.windows g.body (body_line p n) (start (grid_binders g.grid)) (is.plain n g e);
  cells = is.cells;
  lists = is.lists;
  output = is.output;
}
