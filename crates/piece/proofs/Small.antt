-- That the forms of a piece are small has at most one proof.
use Rattle.std.proofs.Common.{ℕ, Option, Some, None, MatchOption, List, ℤ}
use Rattle.std.specs.Prelude.{int_le}
use Rattle.std.proofs.Props.{props}
use Rattle.lin.specs.Forms.{Form}
use Rattle.lin.specs.declared.span.Span1.{Span1}
use Rattle.plan.specs.declared.stmt.Places.{Places}
use Rattle.plan.specs.declared.stmt.Places.TheVariants.{From, Folded}
use Rattle.plan.specs.Plan.{Index, At, Found, Statement, Seq, For, Let, First, Guard, Alloc, Fetch, Store, Publish, Statements, Empty, Then, Group}
use Rattle.plan.specs.Symbols.{Symbols, bind, largest}
use Rattle.plan.specs.Certificate.Certificate.{Certificate}
use Rattle.plan.specs.Certificate.Cells.{grid_symbols, own_region}
use Rattle.plan.specs.Semantics.Actions.{after}
use Rattle.interpreter.specs.Narrow.{FormIsNarrow, SpanIsNarrow, RegionIsNarrow, PlacesAreNarrow, IndexIsNarrow, StatementIsNarrow, BlockIsNarrow, OwnIsNarrow, PieceIsNarrow}

form : (s : Symbols) (l : Form) → IsProp (FormIsNarrow s l)
form s l = Prim.hlevel props

span : (s : Symbols) (x : Span1) → IsProp (SpanIsNarrow s x)
span s x = Prim.hlevel props

region : (s : Symbols) (xs : List Span1) → IsProp (RegionIsNarrow s xs)
region s xs = Prim.hlevel props

places : (s : Symbols) (x : Places) → IsProp (PlacesAreNarrow s x)
places s (From l n) = form s l
places s (Folded n) = Prim.hlevel props

index : (s : Symbols) (x : Index) → IsProp (IndexIsNarrow s x)
index s (At l) = form s l
index s (Found e) = Prim.hlevel props

module _ (Own : Symbols → Type 0) (own : (s : Symbols) → IsProp (Own s)) where
  mutual
    statement : (a : Statement) (s : Symbols) → IsProp (StatementIsNarrow Own a s)
    statement (Seq all) s = statements all s
    statement (For i x kind body) s =
        let inner : (z : ℤ) → IsProp (StatementIsNarrow Own body (bind s i z (int_le z (largest s x.lower)))) = λ z. statement body (bind s i z (int_le z (largest s x.lower))) in
        Prim.hlevel (props, inner)
    statement (Let i pick forms) s = Prim.hlevel props
    statement (First i a b) s = Prim.hlevel (props, statement a s, statement b s)
    statement (Guard low high body) s = Prim.hlevel (props, statement body s)
    statement (Alloc b f xs) s = Prim.hlevel (props, places s)
    statement (Fetch b g xs) s = Prim.hlevel props
    statement (Store b k at e) s = Prim.hlevel (props, index s)
    statement (Publish c) s = own s

    statements : (all : Statements) (s : Symbols) → IsProp (BlockIsNarrow Own all s)
    statements Empty s = Prim.hlevel props
    statements (Then a rest) s = Prim.hlevel (props, statement a s, statements rest (after a s))

given : {A : Type 0} (o : Option A) (P : A → Type 0) → ((x : A) → IsProp (P x)) → IsProp (MatchOption o (Unit {0}) P)
given None P p = Prim.hlevel props
given (Some x) P p = p x

own_narrow : (c : Certificate) (number : ℕ) (g : Group) (s : Symbols) → IsProp (OwnIsNarrow c number g s)
own_narrow c number g s = Prim.hlevel (props, given (own_region c.own number) (RegionIsNarrow s) (region s))

pub PieceIsNarrow-prop : (c : Certificate) (number : ℕ) (g : Group) (at : List ℕ) → IsProp (PieceIsNarrow c number g at)
PieceIsNarrow-prop c number g at = statement (OwnIsNarrow c number g) (own_narrow c number g) g.body (grid_symbols at)
