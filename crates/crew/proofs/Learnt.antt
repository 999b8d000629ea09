-- What a seat learns as it asks.
use Rattle.std.proofs.Common.{◌≡◌, ℕ, suc, Bool, true, false, sym, ap, ◌∙◌, subst, arith, refl}
use Rattle.std.specs.Prelude.{◌&&◌, ⊤, IsTrue, MatchBool}
use Rattle.board.specs.declared.view.View.{View}
use Rattle.board.specs.Seats.{Place, seeing}
use Rattle.board.specs.Views.{completed, knowing}
use Rattle.crew.specs.Learning.{HasLearned, KnowsOf}

pub learned_by : (b : Bool) (s t : Place) (j : ℕ) → MatchBool b (t ≡ seeing s (knowing s.view j)) (t ≡ s) → KnowsOf t.view s.view → HasLearned s.view t.view
learned_by true s t j e more = record {
  last = ap (λ (p : Place). p.view.last) e;
  drawn = ap (λ (p : Place). p.view.drawn) e;
  seats = ap (λ (p : Place). p.view.seats) e;
  none_left = ap (λ (p : Place). p.view.none_left) e;
  allowance = ap (λ (p : Place). p.view.allowance) e;
  more = more;
}
learned_by false s t j e more = record {
  last = ap (λ (p : Place). p.view.last) e;
  drawn = ap (λ (p : Place). p.view.drawn) e;
  seats = ap (λ (p : Place). p.view.seats) e;
  none_left = ap (λ (p : Place). p.view.none_left) e;
  allowance = ap (λ (p : Place). p.view.allowance) e;
  more = more;
}

pub same_board : (b : Bool) (s t : Place) (j : ℕ) → MatchBool b (t ≡ seeing s (knowing s.view j)) (t ≡ s) → t.board ≡ s.board
same_board true s t j e = ap (λ (p : Place). p.board) e
same_board false s t j e = ap (λ (p : Place). p.board) e

pub learned_nothing : (v : View) → HasLearned v v
learned_nothing v = record { last = refl; drawn = refl; seats = refl; none_left = refl; allowance = refl; more = λ j h. h }

pub learned_on : (u v w : View) → HasLearned u v → HasLearned v w → HasLearned u w
learned_on u v w one two = record {
  last = two.last ∙ one.last;
  drawn = two.drawn ∙ one.drawn;
  seats = two.seats ∙ one.seats;
  none_left = two.none_left ∙ one.none_left;
  allowance = two.allowance ∙ one.allowance;
  more = λ j h. two.more j (one.more j h);
}

-- where the second answer is no, or the first was, there is what each shows
pub either_no : (a b : Bool) (X W : Type 0) → MatchBool a ⊤ W → MatchBool b ⊤ X → (X → W) → MatchBool (a && b) ⊤ W
either_no true true X W one two then = tt
either_no true false X W one two then = then two
either_no false b X W one two then = one

pub both_yes : (a b : Bool) → IsTrue a → IsTrue b → IsTrue (a && b)
both_yes true b one two = two
both_yes false b one two = absurd (cc)

pub yes_both : (a b : Bool) → IsTrue (a && b) → IsTrue a × IsTrue b
yes_both true b h = (refl, h)
yes_both false b h = absurd (cc)

-- a seat that filled a piece has learned that it is finished
pub learned_filled : (s t : Place) (j n : ℕ) → t ≡ seeing s (completed s.view j n) → HasLearned s.view t.view
learned_filled s t j n is = subst (λ (p : Place). HasLearned s.view p.view) (sym is) (record {
  last = refl;
  drawn = refl;
  seats = refl;
  none_left = refl;
  allowance = refl;
  more = λ i h. let lt = h.1 in (suc h.0, omega (arith, lt), h.2);
})
