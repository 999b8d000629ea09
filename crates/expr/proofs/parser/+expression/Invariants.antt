use Rattle.std.proofs.Common.{◌≡◌, ◌-◌, ◌++◌, List, [], length, drop}
use Rattle.tree.specs.declared.token.token.Lexeme.{Lexeme}
use Rattle.tree.specs.Token.Cursor.{kinds}
use Rattle.tree.specs.Term.{term_of, list_terms}
use Rattle.expr.specs.Parsing.{joined, part, operand_level, within, indices}
use Rattle.expr.specs.Brackets.{all_closed}
use Rattle.expr.specs.Places.{Part, Stands, AllStand, AreOpening, Front, FrontAt}
use Rattle.expr.proofs.Ranks.{rank}
use Rattle.expr.proofs.parser.+expression.Given as goal

abbrev pub decreases-part : goal.decreases-part
decreases-part l = rank l.levels 0

abbrev pub decreases-condition : goal.decreases-condition
decreases-condition l = rank l.levels 0

abbrev pub decreases-indices : goal.decreases-indices
decreases-indices l = rank l.below 1

abbrev pub decreases-join : goal.decreases-join
decreases-join l = rank l.below 1

abbrev pub decreases-negation : goal.decreases-negation
decreases-negation l = rank l.below 1

abbrev pub decreases-cast : goal.decreases-cast
decreases-cast l = rank l.below 1

abbrev pub decreases-pair : goal.decreases-pair
decreases-pair l = rank l.below 1

abbrev pub decreases-clamp : goal.decreases-clamp
decreases-clamp l = rank l.below 1

abbrev pub decreases-select : goal.decreases-select
decreases-select l = rank l.below 1

abbrev pub decreases-compared : goal.decreases-compared
decreases-compared l = rank l.below 1

abbrev pub decreases-denied : goal.decreases-denied
decreases-denied l = rank l.below 1

abbrev pub decreases-combined : goal.decreases-combined
decreases-combined l = rank l.below 1

abbrev pub decreases-named : goal.decreases-named
decreases-named l = rank l.below 2

abbrev pub decreases-test : goal.decreases-test
decreases-test l = rank l.below 2

abbrev pub decreases-enclosed : goal.decreases-enclosed
decreases-enclosed l = rank l.below 2

abbrev pub decreases-bare : goal.decreases-bare
decreases-bare l = rank l.below 3

abbrev pub decreases-close : goal.decreases-close
decreases-close l = rank l.below 3

abbrev pub decreases-unary : goal.decreases-unary
decreases-unary l = rank l.below 4

abbrev pub decreases-product : goal.decreases-product
decreases-product l = rank l.below 5

abbrev pub decreases-sum : goal.decreases-sum
decreases-sum l = rank l.below 6

abbrev pub invariant-indices-loop : goal.invariant-indices-loop
invariant-indices-loop l = record {
  count : length l.found.items.items ≡ l.counter;
  read : indices (within 512 l.below).sum (512 - l.counter) (list_terms l.found.items.items) (kinds l.rest) ≡ indices (within 512 l.below).sum 512 [] (kinds l.tokens);
  placed : Front (AllStand l.found.items.items) l.tokens l.rest;
}

abbrev pub invariant-join-loop : goal.invariant-join-loop
invariant-join-loop l = record {
  read :
      joined 512 l.below l.level (part (operand_level l.level) (within 512 l.below)) (l.below - l.counter) (term_of l.left.expr) (kinds l.rest)
      ≡ joined 512 l.below l.level (part (operand_level l.level) (within 512 l.below)) l.below (term_of l.initial.left.expr) (kinds l.initial.rest);
  placed : (ls : List Lexeme) → FrontAt (Part (Stands l.initial.left.expr)) l.initial.left.extent ls l.initial.rest → FrontAt (Part (Stands l.left.expr)) l.left.extent ls l.rest;
}

abbrev pub invariant-close-loop-i : goal.invariant-close-loop-i
invariant-close-loop-i l = record {
  read :
      all_closed 512 l.below (within 512 l.below) (length l.brackets - l.i) (term_of l.value.expr) (kinds l.rest)
      ≡ all_closed 512 l.below (within 512 l.below) (length l.brackets) (term_of l.initial.value.expr) (kinds l.initial.rest);
  placed : (ls : List Lexeme) → AreOpening l.brackets → FrontAt (Part (Stands l.initial.value.expr)) l.initial.value.extent ls l.initial.rest
      → FrontAt (Part (Stands l.value.expr)) l.value.extent (drop (length l.brackets - l.i) l.brackets ++ ls) l.rest;
}
