-- What the loop of evaluations keeps.
use Rattle.std.proofs.Common.{◌≡◌, ◌<◌, ◌≤◌, ℕ, zero, suc, ◌+◌, List, [], ◌∷◌, ◌++◌, map, length, take, Some, ℤ, sym, ap, ◌∙◌, subst, arith}
use Rattle.std.specs.Prelude.{slice_get}
use Rattle.std.proofs.lemmas.List.{length-map, length-append, map-append}
use Rattle.tree.specs.Uses.{Asked}
use Rattle.meaning.specs.Algorithm.{Algorithm}
use Rattle.meaning.specs.Names.{bound}
use Rattle.meaning.specs.Conditions.{IsAlgorithm}
use Rattle.plain.specs.declared.frame.Stage.{Stage}
use Rattle.plain.specs.declared.frame.Frame.{Frame}
use Rattle.plain.specs.Sites.{Site, site_of, sites_of_all, asked_at}
use Rattle.plain.specs.Works.{Work, Entry, asked_list, true_entry, entry_of, bound_name, bound_number}
use Rattle.plain.specs.Scopes.{function_at}
use Rattle.plain.specs.Stages.{work, outcome, open_count, level, IsStage, stage_of}
use Rattle.plain.specs.Goals.{IsPlace, IsGoal, IsFrame, WaitsFor, Wait, waiting_count, frame_work, frame_outcome, frame_count, frame_later, Opens, Resumes}
use Rattle.plain.proofs.Machine.{take_at, within_at, get_map, opened_frame, opened_outcome, opened_count, count_waits, resumed_outcome, resumed_count, wait_push, wait_pop, waiting_count-push}
use Rattle.plain.proofs.Standing.{made_of_all}
use Rattle.plain.proofs.Following.{starts_outcome, starts_count}

some_sig : {A : Type 0} {x y : A} → Some x ≡ Some y → x ≡ y
some_sig e = cc

-- a value's start is a stage of the function
pub stage_starts : (a : Algorithm) (k d n : ℕ) → d ≤ length (function_at a k).changes → IsStage (function_at a k) (stage_of d n)
stage_starts a k zero n h = tt
stage_starts a k (suc i) zero h = omega arith
stage_starts a k (suc i) (suc n) h = omega arith

module _ (a : Algorithm) (samples : List ℕ) where
  -- a frame has as many calls as its work asks for
  pub calls_count : (f : Frame) → IsFrame a samples f → length f.calls.items ≡ length (asked_list a.input (frame_work a samples f))
  calls_count f h =
      let vs = bound (frame_work a samples f).names (frame_work a samples f).numbers in
      let calls = (frame_work a samples f).calls in
      sym (length-map f.calls.items site_of) ∙ ap length h.sites
      ∙ sym (length-map (sites_of_all a.input (frame_work a samples f).terms) (asked_at vs calls))
      ∙ ap length (made_of_all vs calls a.input (frame_work a samples f).terms)

  -- a frame that waits has a call left
  pub call_left : (f : Frame) (p : List ℤ) (v : ℤ) (n : ℕ) → IsFrame a samples f → WaitsFor a samples f p v n → length f.answers.items < length f.calls.items
  call_left f p v n h w =
      let within = within_at (asked_list a.input (frame_work a samples f)) (length f.answers.items) w.call w.next in
      let count = calls_count f h in
      omega (arith, within, count)

  -- a frame with its next call answered
  module _ (below : Frame) (p : List ℤ) (v : ℤ) (n : ℕ) (f : Frame) (h : IsFrame a samples below) (w : WaitsFor a samples below p v n) (r : Resumes below p v f) where
    same_work : frame_work a samples f ≡ frame_work a samples below
    same_work i = work a samples (r.function i) (r.stage i) (r.at i).items

    pub same_call : w.call.name ≡ r.site.name
    same_call =
        let vs = bound (frame_work a samples below).names (frame_work a samples below).numbers in
        let calls = (frame_work a samples below).calls in
        let site = ap (λ (l : List Site). slice_get l (length below.answers.items)) (sym h.sites) ∙ r.next in
        let asks = ap (λ (l : List Asked). slice_get l (length below.answers.items)) (sym (made_of_all vs calls a.input (frame_work a samples below).terms))
        ∙ get_map (asked_at vs calls) (sites_of_all a.input (frame_work a samples below).terms) (length below.answers.items) r.site site in
        ap (λ (c : Asked). c.name) (some_sig (sym w.next ∙ asks))

    pub longer : length f.answers.items ≡ length below.answers.items + 1
    longer =
        let e = sym (length-map f.answers.items entry_of) ∙ ap length r.answers ∙ length-append (map entry_of below.answers.items) _ in
        let m : length (map entry_of below.answers.items) ≡ length below.answers.items = length-map below.answers.items entry_of in
        omega (arith, e, m)

    all_answers : map entry_of f.answers.items ≡ map (true_entry (frame_work a samples below)) (take (length below.answers.items + 1) (asked_list a.input (frame_work a samples below)))
    all_answers =
        let new : List Entry = record { name = r.site.name; at = p; number = v } ∷ [] in
        let this = true_entry (frame_work a samples below) in
        let asks = asked_list a.input (frame_work a samples below) in
        let taken = take (length below.answers.items) asks in
        r.answers ∙ ap (λ (l : List Entry). l ++ new) h.answers
        ∙ (λ i. map this taken ++ record { name = sym same_call i; at = sym w.at i; number = sym w.answer i } ∷ [])
        ∙ sym (map-append this taken (w.call ∷ []))
        ∙ ap (map this) (sym (take_at asks (length below.answers.items) w.call w.next))

    pub resumed_frame : IsFrame a samples f
    resumed_frame =
        let within = within_at (asked_list a.input (frame_work a samples below)) (length below.answers.items) w.call w.next in
        let same = ap (λ (x : Work). length (asked_list a.input x)) same_work in
        record {
          place = subst (λ (x : ℕ × List ℤ). IsPlace a x.0 x.1) (λ i. (sym r.function i, (sym r.at i).items)) h.place;
          stage = subst (λ (x : ℕ × Stage). IsStage (function_at a x.0) x.1) (λ i. (sym r.function i, sym r.stage i)) h.stage;
          names = (λ i. map bound_name (r.bindings i).items) ∙ h.names ∙ ap (λ (x : Work). x.names) (sym same_work);
          numbers = (λ i. map bound_number (r.bindings i).items) ∙ h.numbers ∙ ap (λ (x : Work). x.numbers) (sym same_work);
          sites = (λ i. map site_of (r.calls i).items) ∙ h.sites ∙ ap (λ (x : Work). sites_of_all a.input x.terms) (sym same_work);
          answers = all_answers ∙ (λ i. map (true_entry (sym same_work i)) (take (sym longer i) (asked_list a.input (sym same_work i))));
          few = omega (arith, within, same, longer);
        }

  -- what the loop keeps: the frame under way, those that wait, and the evaluations that are left
  pub record Holds (p : List ℤ) (v : ℤ) (c budget left : ℕ) (f : Frame) (ws : List Frame) : Type 0 where
    pub frame : IsFrame a samples f
    pub wait : Wait a samples ws p v f.at.items (frame_outcome a samples f)
    pub count : c + left ≡ budget + frame_count a samples f + waiting_count a samples ws

  module _ (w : IsAlgorithm a) (p : List ℤ) (v : ℤ) (c budget left : ℕ) where
    -- the start
    pub holds_start : (k d n : ℕ) (f : Frame) → IsGoal a k d p → Opens a k (stage_of d n) p f → v ≡ (level a samples k d n).values p → c ≡ (level a samples k d n).counts p → budget ≡ left + 1 → Holds p v c budget left f []
    holds_start k d n f g o ev ec eb =
        let starts : (level a samples k d n).counts p ≡ 1 + open_count a samples k (stage_of d n) p 0 = starts_count a samples w k g.place.below d n p in
        let opened : frame_count a samples f ≡ open_count a samples k (stage_of d n) p 0 = opened_count a samples k (stage_of d n) p f o in
        record {
          frame = opened_frame a samples k (stage_of d n) p f o g.place (stage_starts a k d n g.updates);
          wait = (sym o.at, ev ∙ sym (starts_outcome a samples w k g.place.below d n p) ∙ sym (opened_outcome a samples k (stage_of d n) p f o));
          count = omega (arith, ec, starts, opened, eb);
        }

    pub spent_start : (k d n : ℕ) → IsGoal a k d p → c ≡ (level a samples k d n).counts p → budget ≡ 0 → budget < c
    spent_start k d n g ec eb =
        let starts : (level a samples k d n).counts p ≡ 1 + open_count a samples k (stage_of d n) p 0 = starts_count a samples w k g.place.below d n p in
        omega (arith, ec, starts, eb)

    -- the value, where no frame waits
    pub holds_end : (f : Frame) (ws : List Frame) (u : ℤ) → Holds p v c budget left f ws → ws ≡ [] → frame_outcome a samples f ≡ u → frame_count a samples f ≡ 0 → (u ≡ v) × (c ≤ budget)
    holds_end f ws u h none e z =
        let wait = subst (λ (l : List Frame). Wait a samples l p v f.at.items (frame_outcome a samples f)) none h.wait in
        let empty : waiting_count a samples ws ≡ 0 = ap (waiting_count a samples) none in
        (sym e ∙ sym wait.1, omega (arith, h.count, empty, z))

    -- a value that goes to the frame that waits for it
    pub waited : (f : Frame) (ws rest : List Frame) (below : Frame) (u : ℤ) → Holds p v c budget left f ws → ws ≡ rest ++ below ∷ [] → frame_outcome a samples f ≡ u → length below.answers.items < length below.calls.items
    waited f ws rest below u h split e =
        let popped = wait_pop a samples rest below p v f.at.items (frame_outcome a samples f) (subst (λ (l : List Frame). Wait a samples l p v f.at.items (frame_outcome a samples f)) split h.wait) in
        call_left below f.at.items (frame_outcome a samples f) popped.count popped.frame popped.waits

    pub holds_resumed : (f : Frame) (ws rest : List Frame) (below : Frame) (u : ℤ) (next : Frame) → Holds p v c budget left f ws → ws ≡ rest ++ below ∷ [] → frame_outcome a samples f ≡ u → frame_count a samples f ≡ 0 →
        Resumes below f.at.items u next → Holds p v c budget left next rest
    holds_resumed f ws rest below u next h split e z r =
        let popped = wait_pop a samples rest below p v f.at.items (frame_outcome a samples f) (subst (λ (l : List Frame). Wait a samples l p v f.at.items (frame_outcome a samples f)) split h.wait) in
        let waits = subst (λ (x : ℤ). WaitsFor a samples below f.at.items x popped.count) e popped.waits in
        let same : frame_count a samples next ≡ frame_later a samples below = resumed_count a samples below f.at.items u popped.count next popped.frame waits r in
        let whole : waiting_count a samples ws ≡ waiting_count a samples rest + frame_later a samples below = ap (waiting_count a samples) split ∙ waiting_count-push a samples rest below in
        record {
          frame = resumed_frame below f.at.items u popped.count next popped.frame waits r;
          wait = subst (λ (x : List ℤ × ℤ). Wait a samples rest p v x.0 x.1) (λ i. ((sym r.at i).items, sym (resumed_outcome a samples below f.at.items u popped.count next popped.frame waits r) i)) popped.wait;
          count = omega (arith, h.count, same, whole, z);
        }

    -- a value that is asked for
    module _ (f : Frame) (ws : List Frame) (k d n : ℕ) (q : List ℤ) (h : Holds p v c budget left f ws) (g : IsGoal a k d q) (waits : WaitsFor a samples f q ((level a samples k d n).values q) ((level a samples k d n).counts q)) where
      asked_starts : (level a samples k d n).counts q ≡ 1 + open_count a samples k (stage_of d n) q 0
      asked_starts = starts_count a samples w k g.place.below d n q

      asked_count : frame_count a samples f ≡ (level a samples k d n).counts q + frame_later a samples f
      asked_count = count_waits a samples f q ((level a samples k d n).values q) ((level a samples k d n).counts q) waits

      pub spent_asking : left ≡ 0 → budget < c
      spent_asking z = omega (arith, h.count, asked_starts, asked_count, z)

      pub holds_asked : (rest : ℕ) (all : List Frame) (next : Frame) → left ≡ rest + 1 → all ≡ ws ++ f ∷ [] → Opens a k (stage_of d n) q next → Holds p v c budget rest next all
      holds_asked rest all next el ea o =
          let opened : frame_count a samples next ≡ open_count a samples k (stage_of d n) q 0 = opened_count a samples k (stage_of d n) q next o in
          let whole : waiting_count a samples all ≡ waiting_count a samples ws + frame_later a samples f = ap (waiting_count a samples) ea ∙ waiting_count-push a samples ws f in
          let pushed = wait_push a samples ws p v f q ((level a samples k d n).values q) ((level a samples k d n).counts q) h.wait h.frame waits in
          let value = sym (starts_outcome a samples w k g.place.below d n q) ∙ sym (opened_outcome a samples k (stage_of d n) q next o) in
          record {
            frame = opened_frame a samples k (stage_of d n) q next o g.place (stage_starts a k d n g.updates);
            wait = subst (λ (x : List Frame × List ℤ × ℤ). Wait a samples x.0 p v x.1 x.2) (λ i. (sym ea i, sym o.at i, value i)) pushed;
            count = omega (arith, h.count, asked_starts, asked_count, opened, whole, el);
          }

    -- a frame that goes on as another value of its function
    module _ (f : Frame) (ws : List Frame) (d n : ℕ) (h : Holds p v c budget left f ws) (few : d ≤ length (function_at a f.function).changes) (value : frame_outcome a samples f ≡ (level a samples f.function d n).values f.at.items) (cost : frame_count a samples f ≡ (level a samples f.function d n).counts f.at.items) where
      falls_starts : (level a samples f.function d n).counts f.at.items ≡ 1 + open_count a samples f.function (stage_of d n) f.at.items 0
      falls_starts = starts_count a samples w f.function h.frame.place.below d n f.at.items

      pub falls_goal : IsGoal a f.function d f.at.items
      falls_goal = record { place = h.frame.place; updates = few }

      pub spent_falling : left ≡ 0 → budget < c
      spent_falling z = omega (arith, h.count, falls_starts, cost, z)

      pub holds_fallen : (rest : ℕ) (next : Frame) → left ≡ rest + 1 → Opens a f.function (stage_of d n) f.at.items next → Holds p v c budget rest next ws
      holds_fallen rest next el o =
          let opened : frame_count a samples next ≡ open_count a samples f.function (stage_of d n) f.at.items 0 = opened_count a samples f.function (stage_of d n) f.at.items next o in
          let value = value ∙ sym (starts_outcome a samples w f.function h.frame.place.below d n f.at.items) ∙ sym (opened_outcome a samples f.function (stage_of d n) f.at.items next o) in
          record {
            frame = opened_frame a samples f.function (stage_of d n) f.at.items next o h.frame.place (stage_starts a f.function d n few);
            wait = subst (λ (x : List ℤ × ℤ). Wait a samples ws p v x.0 x.1) (λ i. (sym o.at i, value i)) h.wait;
            count = omega (arith, h.count, falls_starts, cost, opened, el);
          }

    -- a frame that goes on with another stage
    pub holds_turned : (f : Frame) (ws : List Frame) (s : Stage) (next : Frame) → Holds p v c budget left f ws → IsStage (function_at a f.function) s → frame_outcome a samples f ≡ outcome a samples f.function s f.at.items →
        frame_count a samples f ≡ open_count a samples f.function s f.at.items 0 → Opens a f.function s f.at.items next → Holds p v c budget left next ws
    holds_turned f ws s next h ok value cost o =
        let opened : frame_count a samples next ≡ open_count a samples f.function s f.at.items 0 = opened_count a samples f.function s f.at.items next o in
        record {
          frame = opened_frame a samples f.function s f.at.items next o h.frame.place ok;
          wait = subst (λ (x : List ℤ × ℤ). Wait a samples ws p v x.0 x.1) (λ i. (sym o.at i, (value ∙ sym (opened_outcome a samples f.function s f.at.items next o)) i)) h.wait;
          count = omega (arith, h.count, cost, opened);
        }
