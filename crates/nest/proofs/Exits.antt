-- The loop that reads a plan's lines.
use Rattle.std.proofs.Common.{◌≡◌, ℕ, ◌+◌, ◌≤◌, Bool, true, false, not, ◌||◌, List, [], ◌∷◌, ◌++◌, length, Some, None, refl, sym, ap, ◌∙◌, subst, arith, length-append}
use Rattle.std.specs.Prelude.{if◌then◌else◌, ◌==◌}
use Rattle.std.proofs.lemmas.Bool.{eqb-true}
use Rattle.std.proofs.lemmas.List.{append-nil}
use Rattle.plan.specs.Plan.{Plan}
use Rattle.spelling.specs.Lines.Lines.{is_line, lines_text, is_within}
use Rattle.spelling.specs.Lines.Texts.{IsTextOf, IsRefused}
use Rattle.spelling.specs.declared.lines.error.TextError.TheVariants as error
use Rattle.spelling.proofs.Texts.{lines_more, ends_early, wrong_form, past_limit}
use Rattle.spelling.specs.Terms.Laws.{TermIsReadAgain, TermIsPlain}
use Rattle.nest.specs.Blocks.Numbers.{start}
use Rattle.nest.specs.Notation.{counted, is_large_at, plan_notation}
use Rattle.nest.specs.Reader.{State, initial, next_state, finished_state, refusal}
use Rattle.nest.proofs.Steps.{IsRead, read_none, read_more, begins, is_plan, count_is, refused, unfinished, lawful, follows_within}

-- the lines before the rest were read, and the next has that number
pub record Reading (text rest : List ℕ) (number : ℕ) (s : State) : Type 0 where
  pub front : List (List ℕ)
  pub spelled : text ≡ lines_text front ++ rest
  pub counted : number ≡ 1 + length front
  pub read : IsRead front s

-- an empty text
pub empty_is : (text : List ℕ) → true ≡ (length text == 0) → text ≡ []
empty_is [] e = refl
empty_is (b ∷ text) e = absurd (let h = eqb-true (length (b ∷ text)) 0 (sym e) in omega (arith, h))

pub some_left : (text : List ℕ) → false ≡ (length text == 0) → text ≡ [] → ⊥
some_left text e none = let h : false ≡ true = e ∙ ap (λ (w : List ℕ). length w == 0) none in cc

pub reading_start : (text : List ℕ) → Reading text text 1 initial
reading_start text = record { front = []; spelled = refl; counted = omega arith; read = read_none }

pub reading_more : (text rest line after : List ℕ) (n : ℕ) (s t : State) → Reading text rest n s → rest ≡ line ++ 10 ∷ after → next_state n line s ≡ Some t → Reading text after (n + 1) t
reading_more text rest line after n s t r split e =
    record {
      front = r.front ++ line ∷ [];
      spelled = lines_more text rest after line r.front r.spelled split;
      counted = omega (arith, r.counted, length-append r.front (line ∷ []));
      read = read_more r.front line s t r.read (ap (λ k. next_state k line s) (sym r.counted) ∙ e);
    }

pub reading_small : (line : List ℕ) (n : ℕ) (s t : State) → next_state n line s ≡ Some t → n ≤ 65536
reading_small line n s t e = follows_within n line s t e

pub reading_whole : (text rest : List ℕ) (n : ℕ) (s : State) (p : Plan) → Reading text rest n s → rest ≡ [] → finished_state s ≡ Some p → IsTextOf plan_notation 1 text p
reading_whole text rest n s p r none e = is_plan r.front s p text r.read e (r.spelled ∙ ap (λ w. lines_text r.front ++ w) none ∙ append-nil (lines_text r.front))

module _ (term_again : TermIsReadAgain) (term_plain : TermIsPlain) where
  pub reading_ends : (text rest : List ℕ) (n : ℕ) (s : State) → Reading text rest n s → is_line rest ≡ true → (rest ≡ [] → finished_state s ≡ None) → IsRefused plan_notation 1 text (error.Form n)
  reading_ends text rest n s r one open_still =
      subst (λ k. IsRefused plan_notation 1 text (error.Form k)) (sym r.counted)
      (ends_early plan_notation (lawful term_again term_plain) 1 text rest r.front r.spelled (begins r.front s r.read) one (λ none. unfinished term_again term_plain r.front s r.read (open_still none)))

  refused_by : (b : Bool) (text rest line after : List ℕ) (n : ℕ) (s : State) → (r : Reading text rest n s) → rest ≡ line ++ 10 ∷ after → is_line line ≡ true → next_state n line s ≡ None
      → (not (is_within n line) || is_large_at s.count line) ≡ b → IsRefused plan_notation 1 text (if b then error.Limit n else error.Form n)
  refused_by true text rest line after n s r split one none is =
      let wrong = refused term_again term_plain r.front line s r.read (ap (λ k. next_state k line s) (sym r.counted) ∙ none) in
      let large : (not (is_within (1 + length r.front) line) || is_large_at (counted start r.front) line) ≡ true =
      ap (λ k. not (is_within k line) || is_large_at (counted start r.front) line) (sym r.counted) ∙ ap (λ c. not (is_within n line) || is_large_at c line) (sym (count_is term_again term_plain r.front s r.read)) ∙ is in
      subst (λ k. IsRefused plan_notation 1 text (error.Limit k)) (sym r.counted)
      (past_limit plan_notation (lawful term_again term_plain) 1 text rest r.front r.spelled (begins r.front s r.read) line after split one wrong large)
  refused_by false text rest line after n s r split one none is =
      let wrong = refused term_again term_plain r.front line s r.read (ap (λ k. next_state k line s) (sym r.counted) ∙ none) in
      let small : (not (is_within (1 + length r.front) line) || is_large_at (counted start r.front) line) ≡ false =
      ap (λ k. not (is_within k line) || is_large_at (counted start r.front) line) (sym r.counted) ∙ ap (λ c. not (is_within n line) || is_large_at c line) (sym (count_is term_again term_plain r.front s r.read)) ∙ is in
      subst (λ k. IsRefused plan_notation 1 text (error.Form k)) (sym r.counted)
      (wrong_form plan_notation (lawful term_again term_plain) 1 text rest r.front r.spelled (begins r.front s r.read) line after split one wrong small)

  pub reading_refused : (text rest line after : List ℕ) (n : ℕ) (s : State) → Reading text rest n s → rest ≡ line ++ 10 ∷ after → is_line line ≡ true → next_state n line s ≡ None → IsRefused plan_notation 1 text (refusal s.count n line)
  reading_refused text rest line after n s r split one none = refused_by (not (is_within n line) || is_large_at s.count line) text rest line after n s r split one none refl
