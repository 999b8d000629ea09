-- Frames and the frames that wait.
use Rattle.std.proofs.Common.{◌≡◌, ◌≤◌, ℕ, zero, suc, ◌+◌, List, [], ◌∷◌, ◌++◌, map, length, take, drop, Some, ℤ, refl, sym, ap, ◌∙◌, subst, arith, add-one}
use Rattle.std.specs.Prelude.{slice_get, sum_by}
use Rattle.std.proofs.lemmas.List.{length-map, length-append}
use Rattle.std.proofs.lemmas.List.Sums.{sum_by-cons, sum_by_push}
use Rattle.tree.specs.Uses.{Asked}
use Rattle.meaning.specs.Algorithm.{Algorithm}
use Rattle.plain.specs.declared.frame.Stage.{Stage}
use Rattle.plain.specs.declared.frame.Frame.{Frame}
use Rattle.plain.specs.Sites.{sites_of_all}
use Rattle.plain.specs.Works.{Work, asked_list, true_entry, entry_of}
use Rattle.plain.specs.Scopes.{function_at}
use Rattle.plain.specs.Stages.{work, outcome, open_count, IsStage}
use Rattle.plain.specs.Goals.{IsPlace, IsFrame, WaitsFor, Wait, waiting_count, frame_work, frame_outcome, frame_count, frame_later, Opens, Resumes}

-- a list from its n-th element on
drop_suc : {A : Type 0} (xs : List A) (n : ℕ) (x : A) → slice_get xs n ≡ Some x → drop n xs ≡ x ∷ drop (suc n) xs
drop_suc [] n x e = absurd (cc)
drop_suc (y ∷ ys) zero x e = let same : y ≡ x = cc in ap (λ z. z ∷ ys) same
drop_suc (y ∷ ys) (suc n) x e = drop_suc ys n x e

pub drop_at : {A : Type 0} (xs : List A) (n : ℕ) (x : A) → slice_get xs n ≡ Some x → drop n xs ≡ x ∷ drop (n + 1) xs
drop_at xs n x e = rw add-one (drop_suc xs n x e)

take_suc : {A : Type 0} (xs : List A) (n : ℕ) (x : A) → slice_get xs n ≡ Some x → take (suc n) xs ≡ take n xs ++ x ∷ []
take_suc [] n x e = absurd (cc)
take_suc (y ∷ ys) zero x e = let same : y ≡ x = cc in ap (λ z. z ∷ []) same
take_suc (y ∷ ys) (suc n) x e = ap (λ zs. y ∷ zs) (take_suc ys n x e)

pub take_at : {A : Type 0} (xs : List A) (n : ℕ) (x : A) → slice_get xs n ≡ Some x → take (n + 1) xs ≡ take n xs ++ x ∷ []
take_at xs n x e = rw add-one (take_suc xs n x e)

pub within_at : {A : Type 0} (xs : List A) (n : ℕ) (x : A) → slice_get xs n ≡ Some x → n + 1 ≤ length xs
within_at [] n x e = absurd (cc)
within_at (y ∷ ys) zero x e = omega arith
within_at (y ∷ ys) (suc n) x e = let h : n + 1 ≤ length ys = within_at ys n x e in omega arith

pub get_map : {A B : Type 0} (f : A → B) (xs : List A) (n : ℕ) (x : A) → slice_get xs n ≡ Some x → slice_get (map f xs) n ≡ Some (f x)
get_map f [] n x e = absurd (cc)
get_map f (y ∷ ys) zero x e = let same : y ≡ x = cc in ap (λ z. Some (f z)) same
get_map f (y ∷ ys) (suc n) x e = get_map f ys n x e

module _ (a : Algorithm) (samples : List ℕ) where
  -- a frame that is opened
  module _ (k : ℕ) (s : Stage) (p : List ℤ) (f : Frame) (o : Opens a k s p f) where
    work_same : frame_work a samples f ≡ work a samples k s p
    work_same i = work a samples (o.function i) (o.stage i) (o.at i)

    none_yet : length f.answers.items ≡ 0
    none_yet = ap length o.answers

    pub opened_frame : IsPlace a k p → IsStage (function_at a k) s → IsFrame a samples f
    opened_frame place stage = record {
      place = subst (λ (x : ℕ × List ℤ). IsPlace a x.0 x.1) (λ i. (sym o.function i, sym o.at i)) place;
      stage = subst (λ (x : ℕ × Stage). IsStage (function_at a x.0) x.1) (λ i. (sym o.function i, sym o.stage i)) stage;
      names = o.names ∙ ap (λ (w : Work). w.names) (sym work_same);
      numbers = o.numbers ∙ ap (λ (w : Work). w.numbers) (sym work_same);
      sites = o.sites ∙ ap (λ (w : Work). sites_of_all a.input w.terms) (sym work_same);
      answers = ap (map entry_of) o.answers ∙ ap (λ n. map (true_entry (frame_work a samples f)) (take n (asked_list a.input (frame_work a samples f)))) (sym none_yet);
      few = omega (arith, none_yet);
    }

    pub opened_outcome : frame_outcome a samples f ≡ outcome a samples k s p
    opened_outcome i = outcome a samples (o.function i) (o.stage i) (o.at i)

    pub opened_count : frame_count a samples f ≡ open_count a samples k s p 0
    opened_count i = open_count a samples (o.function i) (o.stage i) (o.at i) (none_yet i)

  -- what is left while a frame waits
  pub count_waits : (f : Frame) (p : List ℤ) (v : ℤ) (n : ℕ) → WaitsFor a samples f p v n → frame_count a samples f ≡ n + frame_later a samples f
  count_waits f p v n h =
      let cost : Asked → ℕ = λ c. (frame_work a samples f).costs c.name c.at in
      let split : sum_by cost (drop (length f.answers.items) (asked_list a.input (frame_work a samples f))) ≡ cost h.call + sum_by cost (drop (length f.answers.items + 1) (asked_list a.input (frame_work a samples f))) =
      ap (sum_by cost) (drop_at (asked_list a.input (frame_work a samples f)) (length f.answers.items) h.call h.next) ∙ sum_by-cons cost h.call (drop (length f.answers.items + 1) (asked_list a.input (frame_work a samples f))) in
      omega (arith, split, h.cost)

  -- a frame that goes on with an answer
  module _ (below : Frame) (p : List ℤ) (v : ℤ) (n : ℕ) (f : Frame) (h : IsFrame a samples below) (w : WaitsFor a samples below p v n) (r : Resumes below p v f) where
    resumed_work : frame_work a samples f ≡ frame_work a samples below
    resumed_work i = work a samples (r.function i) (r.stage i) (r.at i).items

    resumed_length : length f.answers.items ≡ length below.answers.items + 1
    resumed_length =
        let e = sym (length-map f.answers.items entry_of) ∙ ap length r.answers ∙ length-append (map entry_of below.answers.items) _ in
        let m : length (map entry_of below.answers.items) ≡ length below.answers.items = length-map below.answers.items entry_of in
        omega (arith, e, m)

    pub resumed_outcome : frame_outcome a samples f ≡ frame_outcome a samples below
    resumed_outcome i = outcome a samples (r.function i) (r.stage i) (r.at i).items

    pub resumed_count : frame_count a samples f ≡ frame_later a samples below
    resumed_count i = open_count a samples (r.function i) (r.stage i) (r.at i).items (resumed_length i)

  -- frames that wait
  pub wait_push : (ws : List Frame) (p : List ℤ) (v : ℤ) (f : Frame) (r : List ℤ) (u : ℤ) (n : ℕ) → Wait a samples ws p v f.at.items (frame_outcome a samples f) → IsFrame a samples f → WaitsFor a samples f r u n →
      Wait a samples (ws ++ f ∷ []) p v r u
  wait_push [] p v f r u n h k w = (k, sym h.0, sym h.1, r, u, n, w, (refl, refl))
  wait_push (x ∷ ws) p v f r u n h k w = (h.0, h.1, h.2, h.3, h.4, h.5, h.6, wait_push ws h.3 h.4 f r u n h.7 k w)

  pub record Popped (ws : List Frame) (f : Frame) (p : List ℤ) (v : ℤ) (q : List ℤ) (u : ℤ) : Type 0 where
    pub wait : Wait a samples ws p v f.at.items (frame_outcome a samples f)
    pub frame : IsFrame a samples f
    pub count : ℕ
    pub waits : WaitsFor a samples f q u count

  pub wait_pop : (ws : List Frame) (f : Frame) (p : List ℤ) (v : ℤ) (q : List ℤ) (u : ℤ) → Wait a samples (ws ++ f ∷ []) p v q u → Popped ws f p v q u
  wait_pop [] f p v q u h = record {
    wait = (sym h.1, sym h.2);
    frame = h.0;
    count = h.5;
    waits = subst (λ (x : List ℤ × ℤ). WaitsFor a samples f x.0 x.1 h.5) (λ i. (h.7.0 i, h.7.1 i)) h.6;
  }
  wait_pop (x ∷ ws) f p v q u h =
      let r = wait_pop ws f h.3 h.4 q u h.7 in
      record { wait = (h.0, h.1, h.2, h.3, h.4, h.5, h.6, r.wait); frame = r.frame; count = r.count; waits = r.waits }

  pub waiting_count-push : (ws : List Frame) (f : Frame) → waiting_count a samples (ws ++ f ∷ []) ≡ waiting_count a samples ws + frame_later a samples f
  waiting_count-push ws f = sum_by_push (frame_later a samples) ws f
