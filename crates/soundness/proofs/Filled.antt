-- A nest of a pure definition gives it at every point of the claim's region.
use Rattle.std.proofs.Common.{◌≡◌, ℕ, zero, suc, Bool, true, false, List, [], ◌∷◌, map, length, Some, None, refl, sym, ap, ◌∙◌, subst, inl, inr, arith}
use Rattle.std.specs.Prelude.{ℤ, ◌==◌, ◌||◌, ◌&&◌, not, if◌then◌else◌, IsSome, int_le}
use Rattle.std.specs.List.{list_any, list_all}
use Rattle.std.proofs.lemmas.Int.{ints}
use Rattle.lin.specs.Search.{is_empty}
use Rattle.tree.specs.Term.{Term}
use Rattle.meaning.specs.Names.{same_name}
use Rattle.plan.specs.declared.stmt.Places.{Places}
use Rattle.plan.specs.Plan.{Index, At, Found, Coordinate, Store}
use Rattle.plan.specs.Symbols.{Symbols, bind, form_value, rising, InRegion}
use Rattle.plan.specs.Rooms.{Room, room, place}
use Rattle.plan.specs.Semantics.Actions.{Setting, Action, Put, Target, Fixed, fixed, index_target, target, are_fixed, action_for, store_action}
use Rattle.plan.specs.Certificate.Certificate.{Claim}
use Rattle.soundness.specs.Origins.{Given}
use Rattle.soundness.specs.Claims.{In, written, ClearOf, status_after}
use Rattle.soundness.specs.Obligations.{Lies, LieIn, Binder, Ranged, Respects, Rules, Suited, span_has, binder_has, places_have, is_form, has_form}
use Rattle.soundness.specs.Shown.{are_seated}
use Rattle.soundness.proofs.Folds.{near_apart}
use Rattle.soundness.proofs.Forms.{is_not, lies_on, respects_on, rooms_same, region_lies}
use Rattle.soundness.proofs.Refines.{eq_true, and_parts, name_true}
use Rattle.soundness.proofs.Shown.{all_seats}
use Rattle.soundness.proofs.Windows.{Fills, fills_make}
use Rattle.soundness.specs.Nests.Nest.{Loop}
use Rattle.soundness.specs.Nests.Tests.{is_once, is_given, are_apart, is_outside, has_ends, are_matched, runs_over, loops_hold, is_new, binders_in, index_known, known_span, left_of, over_of, covers, has_places, is_filled}
use Rattle.soundness.proofs.Coordinates.{never, all_in, none_in, coordinate, paired, point_same, points_fixed, turn_has, run_lies, lie_length}
use Rattle.soundness.proofs.Near.{InSpans, near_loops, pairs_in, visit_in, visits_only}
use Rattle.soundness.proofs.Touched.{touched, written_touched, status_touched}
use Rattle.soundness.proofs.Visits.{Spin, spin_of, visits, AreFree, visit, bound_to, all_bound, now_bound, visits_write, visits_fill}

index_fixed : (s : Symbols) (x : Index) (ts : List Target) → has_form x ≡ true → are_fixed ts ≡ true → are_fixed (index_target s x ∷ ts) ≡ true
index_fixed s (At l) ts h k = k
index_fixed s (Found e) ts h k = absurd (cc h)

forms_fixed : (s : Symbols) (cs : List Coordinate) → list_all is_form cs ≡ true → are_fixed (map (target s) cs) ≡ true
forms_fixed s [] h = refl
forms_fixed s (c ∷ cs) h = let k = and_parts (is_form c) (list_all is_form cs) h in index_fixed s c.index (map (target s) cs) k.0 (forms_fixed s cs k.1)

known_index : (s : Symbols) (z : ℤ) (x : Index) → has_form x ≡ true → index_target s x ≡ Fixed z → Lies s (index_known x) z
known_index s z (At l) h e = let same : form_value l s ≡ z = cc in ((omega (arith, ints, same), tt), (omega (arith, ints, same), tt))
known_index s z (Found e) h k = absurd (cc h)

heads : {A : Type 0} (x y : A) (xs ys : List A) → x ∷ xs ≡ y ∷ ys → (x ≡ y) × (xs ≡ ys)
heads x y xs ys e = (cc, cc)

known_lies : (s : Symbols) (cs : List Coordinate) (p : List ℤ) → list_all is_form cs ≡ true → map (target s) cs ≡ map Fixed p → LieIn s (map known_span cs) p
known_lies s [] [] h e = tt
known_lies s [] (z ∷ zs) h e = absurd (cc e)
known_lies s (c ∷ cs) [] h e = absurd (cc e)
known_lies s (c ∷ cs) (z ∷ zs) h e =
    let k = and_parts (is_form c) (list_all is_form cs) h in
    let t = heads (target s c) (Fixed z) (map (target s) cs) (map Fixed zs) e in
    (known_index s z c.index k.0 t.0, known_lies s cs zs k.1 t.1)

put_of : (b : ℕ) (f : List ℕ) (names : List (List ℕ)) (e : Term) (s : Symbols) (left over : List Coordinate) → list_all is_form left ≡ true → is_empty over ≡ true →
    store_action b f 0 names (map (target s) left) (map (λ c. fixed (target s c)) over) e ≡ Put b f names (map fixed (map (target s) left)) e
put_of b f names e s left [] h k = ap (λ v. action_for v b f 0 names (map (target s) left) [] e) (forms_fixed s left h)
put_of b f names e s left (c ∷ cs) h k = absurd (cc k)

module _ (setting : Setting) (b c : ℕ) (at : List Coordinate) (e : Term) (own : (c == b) ≡ true) (forms : list_all is_form (left_of setting c at) ≡ true) (only : is_empty (over_of setting c at) ≡ true) where
  -- the store at a visit
  pub put_visit : (s : Symbols) → visit setting b (Store c 0 at e) s ≡ Put c (setting.buffer_function c) (map (λ c. c.variable) at) (map fixed (map (target s) (left_of setting c at))) e ∷ []
  put_visit s = ap (λ x. touched b (x ∷ [])) (put_of c (setting.buffer_function c) (map (λ c. c.variable) at) e s (left_of setting c at) (over_of setting c at) forms only) ∙ of (c == b) own
    where
      of : (v : Bool) → v ≡ true → let x = Put c (setting.buffer_function c) (map (λ c. c.variable) at) (map fixed (map (target s) (left_of setting c at))) e in (if v then x ∷ [] else []) ≡ x ∷ []
      of true h = refl
      of false h = absurd (cc h)

-- ---- the loops bound to a point

module _ (v : ℕ → ℤ) (t : Symbols) where
  pub respects_in : (ls : List Loop) (bs : List Binder) (s : Symbols) → Respects bs s → AreFree ls → are_apart ls ≡ true → ((l : Loop) → In l ls → list_any (binder_has l.symbol) bs ≡ false) →
      ((l : Loop) → In l ls → Lies s l.span (v l.symbol)) → Respects (binders_in ls bs) (bound_to v (map (spin_of t) ls) s)
  respects_in [] bs s r free apart fresh lie = r
  respects_in (l ∷ ls) bs s r free apart fresh lie =
      let z = v l.symbol in
      let low = int_le z (spin_of t l).low in
      let a = and_parts (not (list_any (λ (m : Loop). l.symbol == m.symbol) ls)) (are_apart ls) apart in
      let here : Lies (bind s l.symbol z low) l.span z = lies_on s l.symbol z low l.span z (free l l (inl refl) (inl refl)) (lie l (inl refl)) in
      respects_in ls (Ranged l.symbol l.span ∷ bs) (bind s l.symbol z low)
      (subst (Lies (bind s l.symbol z low) l.span) (sym (now_bound s l.symbol z low)) here, respects_on s l.symbol z low bs (fresh l (inl refl)) r)
      (λ m n j k. free m n (inr j) (inr k)) a.1
      (λ m n. neither (l.symbol == m.symbol) (span_has m.symbol l.span) (list_any (binder_has m.symbol) bs)
      (none_in (λ (m : Loop). l.symbol == m.symbol) ls (is_not (list_any (λ (m : Loop). l.symbol == m.symbol) ls) a.0) m n) (free m l (inr n) (inl refl)) (fresh m (inr n)))
      (λ m n. lies_on s l.symbol z low m.span (v m.symbol) (free l m (inl refl) (inr n)) (lie m (inr n)))
    where
      neither : (x y w : Bool) → x ≡ false → y ≡ false → w ≡ false → ((x || y) || w) ≡ false
      neither false false w h k j = j
      neither true y w h k j = absurd (cc h)
      neither false true w h k j = absurd (cc k)

  pub rooms_in : (ls : List Loop) (places : List Places) (s : Symbols) → ((l : Loop) → In l ls → list_any (places_have l.symbol) places ≡ false) → map (room (bound_to v (map (spin_of t) ls) s)) places ≡ map (room s) places
  rooms_in [] places s fresh = refl
  rooms_in (l ∷ ls) places s fresh =
      let z = v l.symbol in
      let low = int_le z (spin_of t l).low in
      rooms_in ls places (bind s l.symbol z low) (λ m n. fresh m (inr n)) ∙ rooms_same s l.symbol z low places (fresh l (inl refl))

-- what is tested of loops and coordinates
pub record Matched (ls : List Loop) (cs : List Coordinate) : Type 0 where
  pub apart : are_apart ls ≡ true
  pub free : AreFree ls
  pub ends : (l : Loop) → In l ls → has_ends l.span ≡ true
  pub once : (l : Loop) → In l ls → is_once l.symbol cs ≡ true
  pub all : list_all (is_given ls) cs ≡ true

pub matched : (ls : List Loop) (cs : List Coordinate) → are_matched ls cs ≡ true → Matched ls cs
matched ls cs h =
    let a = and_parts (are_apart ls) (list_all (is_outside ls) ls && (list_all (λ l. is_once l.symbol cs) ls && list_all (is_given ls) cs)) h in
    let d = and_parts (list_all (is_outside ls) ls) (list_all (λ l. is_once l.symbol cs) ls && list_all (is_given ls) cs) a.1 in
    let g = and_parts (list_all (λ l. is_once l.symbol cs) ls) (list_all (is_given ls) cs) d.1 in
    let outside : (m : Loop) → In m ls → (has_ends m.span ≡ true) × (list_all (λ l. not (span_has l.symbol m.span)) ls ≡ true) =
    λ m n. and_parts (has_ends m.span) (list_all (λ l. not (span_has l.symbol m.span)) ls) (all_in (is_outside ls) ls d.0 m n) in
    record {
      apart = a.0;
      free = λ l m i j. is_not (span_has l.symbol m.span) (all_in (λ (l : Loop). not (span_has l.symbol m.span)) ls (outside m j).1 l i);
      ends = λ m n. (outside m n).0;
      once = all_in (λ l. is_once l.symbol cs) ls g.0;
      all = g.1;
    }

-- a turn of each loop for what lies in its span
pub has_turns : (s : Symbols) (v : ℕ → ℤ) (ls : List Loop) → ((l : Loop) → In l ls → has_ends l.span ≡ true) → ((l : Loop) → In l ls → Lies s l.span (v l.symbol)) →
    (k : Spin) → In k (map (spin_of s) ls) → In (v k.symbol) (rising k.low k.count)
has_turns s v [] ends lie k m = absurd m
has_turns s v (l ∷ ls) ends lie k (inl e) = subst (λ (j : Spin). In (v j.symbol) (rising j.low j.count)) (sym e) (turn_has s l.span (v l.symbol) (ends l (inl refl)) (lie l (inl refl)))
has_turns s v (l ∷ ls) ends lie k (inr m) = has_turns s v ls (λ j n. ends j (inr n)) (λ j n. lie j (inr n)) k m

pub in_symbols : (s : Symbols) (l : Loop) (ls : List Loop) → In l ls → In l.symbol (map (λ (k : Spin). k.symbol) (map (spin_of s) ls))
in_symbols s l [] m = absurd m
in_symbols s l (x ∷ ls) (inl e) = inl (ap (λ (y : Loop). y.symbol) e)
in_symbols s l (x ∷ ls) (inr m) = inr (in_symbols s l ls m)

module _ (given : Given) (rules : Rules) (suited : Suited given rules) (none : (f : List ℕ) → given.steps f 0 ≡ 0) (bs : List Binder) (s : Symbols) (r : Respects bs s) where
  abbrev S : Setting
  S = given.outline.setting

  pub filled_made : (claim : Claim) (places : List Places) (ls : List Loop) (c k : ℕ) (at : List Coordinate) (e : Term) (todo : List Action) → (c == claim.buffer) ≡ true → is_filled S rules bs claim places ls (Store c k at e) ≡ true →
      (AreFree ls → touched claim.buffer todo ≡ visits (visit S claim.buffer (Store c k at e)) (map (spin_of s) ls) s) → (p : List ℤ) → InRegion s claim.region p →
      (status_after given claim.buffer p todo None ≡ Some (given.steps claim.function claim.definition)) × ClearOf (Some (map (room s) places)) p (written claim.buffer todo)
  filled_made claim places ls c (suc k) at e todo own h same p inside = never h
  filled_made claim places ls c zero at e todo own h same p inside =
      let b = claim.buffer in
      let f = claim.function in
      let left = left_of S c at in
      let over = over_of S c at in
      let h2 = and_parts (claim.definition == 0) _ h in
      let h3 = and_parts (same_name (S.buffer_function c) f) _ h2.1 in
      let h4 = and_parts (list_all is_form left) _ h3.1 in
      let h5 = and_parts (is_empty over) _ h4.1 in
      let h6 = and_parts (are_matched ls left) _ h5.1 in
      let h7 = and_parts (covers S rules bs claim left ls) (has_places S rules bs left ls places) h6.1 in
      let h8 = and_parts (length left == length claim.region) (list_all (runs_over rules bs left claim.region) ls) h7.0 in
      let h9 = and_parts (loops_hold rules bs ls left places) _ h7.1 in
      let h10 = and_parts (list_all (is_new bs places) ls) (are_seated rules (binders_in ls bs) (map known_span left) places) h9.1 in
      let lie = region_lies s claim.region p inside in
      let is = matched ls left h6.0 in
      let v : ℕ → ℤ = λ i. coordinate i left p in
      let many : length left ≡ length p = eq_true (length left) (length claim.region) h8.0 ∙ lie_length s claim.region p lie in
      let lies : (l : Loop) → In l ls → Lies s l.span (v l.symbol) = λ l m. run_lies given rules suited bs s r l.symbol left claim.region p l.span (all_in (runs_over rules bs left claim.region) ls h8.1 l m) lie in
      let spins = map (spin_of s) ls in
      let t = bound_to v spins s in
      let point : map (target t) left ≡ map Fixed p = point_same t ls v left p many h4.0 is.all (λ l m. paired l.symbol left p (is.once l m)) (λ l m. all_bound v l.symbol spins s (in_symbols s l ls m)) in
      let put = put_visit S b c at e own h4.0 h5.0 in
      let name : S.buffer_function c ≡ f = name_true (S.buffer_function c) f h3.0 in
      let act = visit S b (Store c 0 at e) in
      let here : In p (written b (act t)) =
      subst (λ todo. In p (written b todo)) (sym (put t)) (in_head (c == b) p (map fixed (map (target t) left)) own (sym (ap (map fixed) point ∙ (points_fixed p).1))) in
      let has : In p (written b (visits act spins s)) = visits_write act b p v spins s (has_turns s v ls is.ends lies) here in
      let fill : Fills b f (visits act spins s) = visits_fill act b f (λ u. subst (Fills b f) (sym (put u)) ((λ _. name), tt)) spins s in
      let visited = same is.free in
      let new : (l : Loop) → In l ls → (list_any (binder_has l.symbol) bs ≡ false) × (list_any (places_have l.symbol) places ≡ false) = λ l m.
      let k = and_parts (not (list_any (binder_has l.symbol) bs)) (not (list_any (places_have l.symbol) places)) (all_in (is_new bs places) ls h10.0 l m) in
      (is_not (list_any (binder_has l.symbol) bs) k.0, is_not (list_any (places_have l.symbol) places) k.1) in
      let within = respects_in v s ls bs s r is.free is.apart (λ l m. (new l m).0) lies in
      let seat : IsSome (place (map (room s) places) p) =
      subst (λ (rs : List Room). IsSome (place rs p)) (rooms_in v s ls places s (λ l m. (new l m).1))
      (all_seats rules (binders_in ls bs) t (λ x y k. suited.ordered (binders_in ls bs) x y t k within) (map known_span left) places h10.1 p (known_lies t left p h4.0 point)) in (
        status_touched given b p todo None ∙ ap (λ xs. status_after given b p xs None) visited
            ∙ fills_make given b f p (visits act spins s) None fill has
            ∙ ap Some (sym (ap (given.steps f) (eq_true claim.definition 0 h2.0) ∙ none f)),
        λ x m same_place.
            let only = visits_only act b x s ls s is.apart (subst (In x) (written_touched b todo ∙ ap (written b) visited) m) in
            let at : x ≡ map fixed (map (target only.0) left) = in_one (c == b) x (map fixed (map (target only.0) left)) (subst (λ todo. In x (written b todo)) (put only.0) only.1) in
            near_apart (map (room s) places) p x
            (near_loops given rules suited bs s r ls left places p x h9.0 many (pairs_in s ls v left p (λ l m. paired l.symbol left p (is.once l m)) lies)
            (subst (InSpans s ls left) (sym at) (visit_in s ls only.0 left only.2)))
            seat same_place,
      )
    where
      in_head : (w : Bool) (q x : List ℤ) → w ≡ true → q ≡ x → In q (if w then x ∷ [] else [])
      in_head true q x e k = inl k
      in_head false q x e k = absurd (cc e)

      in_one : (w : Bool) (q x : List ℤ) → In q (if w then x ∷ [] else []) → q ≡ x
      in_one true q x (inl k) = k
      in_one true q x (inr k) = absurd k
      in_one false q x k = absurd k
