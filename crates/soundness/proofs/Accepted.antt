-- The tests say yes to nests in plain form.
use Rattle.std.proofs.Common.{◌≡◌, ℕ, suc, Bool, true, false, List, [], ◌∷◌, ◌++◌, map, length, Option, Some, None, refl, sym, ap, ◌∙◌, inl, inr}
use Rattle.std.specs.Prelude.{◌==◌, ◌||◌, ◌&&◌, if◌then◌else◌, filter, reverse}
use Rattle.std.specs.List.{list_any, list_all}
use Rattle.tree.specs.Term.{Term}
use Rattle.lin.specs.Forms.{is_within_limits}
use Rattle.lin.specs.Search.{is_empty}
use Rattle.lin.specs.declared.span.Span1.{Span1}
use Rattle.meaning.specs.Algorithm.{Range}
use Rattle.meaning.specs.Names.{same_name}
use Rattle.plan.specs.declared.stmt.Places.{Places}
use Rattle.plan.specs.declared.stmt.Places.TheVariants.{From, Folded}
use Rattle.plan.specs.Plan.{Coordinate, Fetch, Store}
use Rattle.plan.specs.Semantics.Actions.{Setting}
use Rattle.plan.specs.Certificate.Certificate.{Claim}
use Rattle.soundness.specs.Claims.{In}
use Rattle.soundness.specs.Obligations.{Binder, Rules, is_form, is_next}
use Rattle.soundness.specs.Shown.{is_within, are_within, are_seated}
use Rattle.soundness.proofs.Refines.{eq_refl, and_parts, name_refl}
use Rattle.soundness.specs.Nests.Nest.{Loop, is_symbol}
use Rattle.soundness.specs.Nests.Tests.{are_matched, is_among, has_ends, fold_holds, range_span, is_run, runs_over, is_whole, are_whole, is_reduced, left_of, over_of, covers, has_places, is_filled, is_fetched, is_ordered, is_advanced, makes, is_in_order, is_given, loops_hold, is_new, binders_in, known_span}
use Rattle.soundness.specs.Nests.Plain.{SaysSame, is_small, is_straight, AreReduced, IsRegionOf, IsPlainNest, IsPlainFetch, IsPlainUpdate, PlainNestsAreAccepted}
use Rattle.soundness.proofs.Coordinates.{any_in, all_in}
use Rattle.soundness.proofs.Filled.{matched}
use Rattle.soundness.proofs.Ordered.{given_any}
use Rattle.soundness.proofs.Turns.{in_append}

both : (a b : Bool) → a ≡ true → b ≡ true → (a && b) ≡ true
both true b h k = k
both false b h k = absurd (cc h)

first_of : (a b : Bool) → a ≡ true → (a || b) ≡ true
first_of true b h = refl
first_of false b h = absurd (cc h)

second_of : (a b : Bool) → b ≡ true → (a || b) ≡ true
second_of true b h = refl
second_of false b h = h

any_has : {A : Type 0} (test : A → Bool) (x : A) (xs : List A) → In x xs → test x ≡ true → list_any test xs ≡ true
any_has test x [] m h = absurd m
any_has test x (y ∷ ys) (inl e) h = first_of (test y) (list_any test ys) (ap test (sym e) ∙ h)
any_has test x (y ∷ ys) (inr m) h = second_of (test y) (list_any test ys) (any_has test x ys m h)

all_have : {A : Type 0} (test : A → Bool) (xs : List A) → ((x : A) → In x xs → test x ≡ true) → list_all test xs ≡ true
all_have test [] h = refl
all_have test (x ∷ xs) h = both (test x) (list_all test xs) (h x (inl refl)) (all_have test xs (λ y m. h y (inr m)))

number_same : (m n : ℕ) → m ≡ n → (m == n) ≡ true
number_same m n e = ap (λ k. m == k) (sym e) ∙ eq_refl m

name_same : (m n : List ℕ) → m ≡ n → same_name m n ≡ true
name_same m n e = ap (same_name m) (sym e) ∙ name_refl m

module _ (rules : Rules) (same : SaysSame rules) (bs : List Binder) where
  within_same : (x : Span1) → is_small x ≡ true → is_within rules bs x x ≡ true
  within_same x h =
      let k = and_parts (list_all is_within_limits x.lower) (list_all is_within_limits x.upper) h in
      both (list_all (λ m. list_any (λ l. rules.at_most bs m l) x.lower) x.lower) (list_all (λ m. list_any (λ u. rules.at_most bs u m) x.upper) x.upper)
      (all_have (λ m. list_any (λ l. rules.at_most bs m l) x.lower) x.lower (λ m n. any_has (λ l. rules.at_most bs m l) m x.lower n (same bs m (all_in is_within_limits x.lower k.0 m n))))
      (all_have (λ m. list_any (λ u. rules.at_most bs u m) x.upper) x.upper (λ m n. any_has (λ u. rules.at_most bs u m) m x.upper n (same bs m (all_in is_within_limits x.upper k.1 m n))))

  all_within_same : (xs : List Span1) → ((x : Span1) → In x xs → is_small x ≡ true) → are_within rules bs xs xs ≡ true
  all_within_same [] h = refl
  all_within_same (x ∷ xs) h = both (is_within rules bs x x) (are_within rules bs xs xs) (within_same x (h x (inl refl))) (all_within_same xs (λ y m. h y (inr m)))

  runs_same : (ls : List Loop) (left : List Coordinate) (region : List Span1) → IsRegionOf ls left region → (l : Loop) → In l ls → runs_over rules bs left region l ≡ true
  runs_same ls left region is l m = ap (λ o. is_run rules bs o l.span) (is.spans l m) ∙ within_same l.span (is.small l m)

  whole_same : (x : Span1) (d : Range) → x ≡ range_span d → is_small (range_span d) ≡ true → is_whole rules bs x d ≡ true
  whole_same x d e h =
      let k = within_same (range_span d) h in
      both (is_within rules bs x (range_span d)) (is_within rules bs (range_span d) x) (ap (λ y. is_within rules bs y (range_span d)) e ∙ k) (ap (λ y. is_within rules bs (range_span d) y) e ∙ k)

  all_whole : (ls : List Loop) (cs : List Coordinate) (ds : List Range) → AreReduced ls cs ds → are_whole rules bs ls cs ds ≡ true
  all_whole [] [] [] h = refl
  all_whole [] [] (d ∷ ds) h = absurd h
  all_whole [] (c ∷ cs) ds h = absurd h
  all_whole (l ∷ ls) [] ds h = absurd h
  all_whole (l ∷ ls) (c ∷ cs) [] h = absurd h
  all_whole (l ∷ ls) (c ∷ cs) (d ∷ ds) h =
      both (is_symbol l.symbol c) (is_whole rules bs l.span d && are_whole rules bs ls cs ds) h.0
      (both (is_whole rules bs l.span d) (are_whole rules bs ls cs ds) (whole_same l.span d h.1 h.2) (all_whole ls cs ds h.3))

straight_holds : (rules : Rules) (bs : List Binder) (xs : List Span1) (places : List Places) → list_all is_straight places ≡ true → fold_holds rules bs xs places ≡ true
straight_holds rules bs [] places h = refl
straight_holds rules bs (x ∷ xs) [] h = refl
straight_holds rules bs (x ∷ xs) (From l n ∷ places) h = straight_holds rules bs xs places h
straight_holds rules bs (x ∷ xs) (Folded n ∷ places) h = absurd (cc h)

straight_loops : (rules : Rules) (bs : List Binder) (ls : List Loop) (cs : List Coordinate) (places : List Places) → list_all is_straight places ≡ true → list_all is_form cs ≡ true → list_all (is_given ls) cs ≡ true → loops_hold rules bs ls cs places ≡ true
straight_loops rules bs ls [] places h f g = refl
straight_loops rules bs ls (c ∷ cs) [] h f g = refl
straight_loops rules bs ls (c ∷ cs) (From l n ∷ places) h f g =
    let a = and_parts (is_form c) (list_all is_form cs) f in
    let d = and_parts (is_given ls c) (list_all (is_given ls) cs) g in
    let m = any_in (λ (k : Loop). is_symbol k.symbol c) ls (given_any ls c a.0 d.0) in
    both (list_any (λ k. is_symbol k.symbol c && true) ls) (loops_hold rules bs ls cs places)
    (any_has (λ (k : Loop). is_symbol k.symbol c && true) m.0 ls m.1 (both (is_symbol m.0.symbol c) true m.2 refl)) (straight_loops rules bs ls cs places h a.1 d.1)
straight_loops rules bs ls (c ∷ cs) (Folded n ∷ places) h f g = absurd (cc h)

filter_some : (test : Loop → Bool) (ls : List Loop) → ((l : Loop) → In l ls → test l ≡ true) → filter test ls ≡ ls
filter_some test [] h = refl
filter_some test (l ∷ ls) h = ap (λ v. if v then l ∷ filter test ls else filter test ls) (h l (inl refl)) ∙ ap (λ ms. l ∷ ms) (filter_some test ls (λ m n. h m (inr n)))

filter_inner : (test : Loop → Bool) (ls ms : List Loop) → ((l : Loop) → In l ls → test l ≡ false) → ((l : Loop) → In l ms → test l ≡ true) → filter test (ls ++ ms) ≡ ms
filter_inner test [] ms h k = filter_some test ms k
filter_inner test (l ∷ ls) ms h k = ap (λ v. if v then l ∷ filter test (ls ++ ms) else filter test (ls ++ ms)) (h l (inl refl)) ∙ filter_inner test ls ms (λ m n. h m (inr n)) k

module _ (setting : Setting) (rules : Rules) (domain : List ℕ → ℕ → Option (List Range)) (same : SaysSame rules) (bs : List Binder) (claim : Claim) where
  covers_plain : (ls : List Loop) (left : List Coordinate) → IsRegionOf ls left claim.region → covers setting rules bs claim left ls ≡ true
  covers_plain ls left is =
      both (length left == length claim.region) (list_all (runs_over rules bs left claim.region) ls) (number_same (length left) (length claim.region) is.many)
      (all_have (runs_over rules bs left claim.region) ls (runs_same rules same bs ls left claim.region is))

  nest_filled : (places : List Places) (ls : List Loop) (b : ℕ) (at : List Coordinate) (e : Term) → IsPlainNest setting rules domain bs claim places ls b at → is_filled setting rules bs claim places ls (Store b 0 at e) ≡ true
  nest_filled places ls b at e is =
      let left = left_of setting b at in
      both (claim.definition == 0) _ (number_same claim.definition 0 is.definition)
      (both (same_name (setting.buffer_function b) claim.function) _ (name_same (setting.buffer_function b) claim.function is.function)
      (both (list_all is_form left) _ is.forms
      (both (is_empty (over_of setting b at)) _ (ap is_empty is.pure)
      (both (are_matched ls left) _ is.matched
      (both (covers setting rules bs claim left ls) (has_places setting rules bs left ls places) (covers_plain ls left is.region)
      (both (loops_hold rules bs ls left places) _ (straight_loops rules bs ls left places is.straight is.forms (matched ls left is.matched).all)
      (both (list_all (is_new bs places) ls) (are_seated rules (binders_in ls bs) (map known_span left) places) is.new is.seated)))))))

  fetch_fetched : (places : List Places) (b g : ℕ) (region : List Span1) → IsPlainFetch setting rules domain bs claim places g region → is_fetched setting rules bs claim places [] (Fetch b g region) ≡ true
  fetch_fetched places b g region is =
      both (same_name (setting.group_function g) claim.function) _ (name_same (setting.group_function g) claim.function is.function)
      (both (claim.definition == rules.last claim.function) _ (number_same claim.definition (rules.last claim.function) is.definition)
      (both (list_all has_ends region) _ (all_have has_ends region (λ x m. (is.small x m).1))
      (both (are_within rules bs claim.region region) _ (ap (λ xs. are_within rules bs xs region) (sym is.same) ∙ all_within_same rules same bs region (λ x m. (is.small x m).0))
      (both (fold_holds rules bs region places) (are_seated rules bs region places) (straight_holds rules bs region places is.straight) is.seated))))

  update_ordered : (ls : List Loop) (b k : ℕ) (at : List Coordinate) (e : Term) → IsPlainUpdate setting rules domain bs claim ls b k at → is_ordered setting rules domain bs claim ls (Store b (suc k) at e) ≡ true
  update_ordered ls b k at e is =
      let left = left_of setting b at in
      let over = over_of setting b at in
      let loops : filter (is_among over) ls ≡ is.reduced = ap (filter (is_among over)) is.loops ∙ filter_inner (is_among over) is.pure is.reduced is.outer is.inner in
      let reduced : is_reduced rules bs (domain claim.function (suc k)) over ls ≡ true =
      ap (λ o. is_reduced rules bs o over ls) is.known ∙ ap (λ ms. are_whole rules bs ms (reverse over) (reverse is.ranges)) loops ∙ all_whole rules same bs is.reduced (reverse over) (reverse is.ranges) is.whole in
      both (claim.definition == suc k) _ (number_same claim.definition (suc k) is.definition)
      (both (same_name (setting.buffer_function b) claim.function) _ (name_same (setting.buffer_function b) claim.function is.function)
      (both (list_all is_form over) _ is.forms (both (are_matched ls (left ++ over)) _ is.matched reduced)))

  update_advanced : (ls : List Loop) (b k : ℕ) (at : List Coordinate) (e : Term) → IsPlainUpdate setting rules domain bs claim ls b k at → is_advanced setting rules domain bs claim ls (Store b (suc k) at e) ≡ true
  update_advanced ls b k at e is =
      let left = left_of setting b at in
      let over = over_of setting b at in
      let test : Loop → Bool = λ l. is_among over l || runs_over rules bs left claim.region l in
      let each : list_all test (is.pure ++ is.reduced) ≡ true =
      all_have test (is.pure ++ is.reduced)
      (λ l m. elim (in_append l is.pure is.reduced m) [
        | inl n ↦ second_of (is_among over l) (runs_over rules bs left claim.region l) (runs_same rules same bs is.pure left claim.region is.region l n)
        | inr n ↦ first_of (is_among over l) (runs_over rules bs left claim.region l) (is.inner l n)
      ]) in
      both (is_ordered setting rules domain bs claim ls (Store b (suc k) at e)) _ (update_ordered ls b k at e is)
      (both (length left == length claim.region) (list_all test ls) (number_same (length left) (length claim.region) is.region.many) (ap (list_all test) is.loops ∙ each))

pub plain_nests_accepted : PlainNestsAreAccepted
plain_nests_accepted outline rules domain same bs c places a ls = record {
  nest = λ b at e n is.
      ap (makes outline.setting rules domain bs (outline.claim c) None places) n
      ∙ first_of (is_filled outline.setting rules bs (outline.claim c) places ls (Store b 0 at e)) (is_fetched outline.setting rules bs (outline.claim c) places ls (Store b 0 at e))
      (nest_filled outline.setting rules domain same bs (outline.claim c) places ls b at e is);
  fetch = λ b g region n is.
      ap (makes outline.setting rules domain bs (outline.claim c) None places) n
      ∙ second_of (is_filled outline.setting rules bs (outline.claim c) places [] (Fetch b g region)) (is_fetched outline.setting rules bs (outline.claim c) places [] (Fetch b g region))
      (fetch_fetched outline.setting rules domain same bs (outline.claim c) places b g region is);
  update = λ b k at e n is. (
    ap (makes outline.setting rules domain bs (outline.claim c) (Some k) places) n
        ∙ both (is_next k (outline.claim c).definition) (is_advanced outline.setting rules domain bs (outline.claim c) ls (Store b (suc k) at e))
        (ap (is_next k) is.definition ∙ eq_refl k) (update_advanced outline.setting rules domain same bs (outline.claim c) ls b k at e is),
    ap (is_in_order outline.setting rules domain bs (outline.claim c)) n ∙ update_ordered outline.setting rules domain same bs (outline.claim c) ls b k at e is,
  );
}
