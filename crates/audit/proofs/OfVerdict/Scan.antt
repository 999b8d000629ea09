-- The plan of the running sum is in plain form.
use Rattle.std.proofs.Common.{◌≡◌, true, [], ◌∷◌, refl, sym, subst, inl, inr}
use Rattle.std.specs.Prelude.{List, pos, codes}
use Rattle.tree.specs.Term.{Name, Call, Clamp, Number, Binary, More, End}
use Rattle.numeric.specs.declared.ty.Ty.TheVariants.{I32}
use Rattle.numeric.specs.declared.op.Op.TheVariants.{Add, Sub}
use Rattle.lin.specs.Forms.{number}
use Rattle.lin.specs.declared.span.Span1.{Span1}
use Rattle.plan.specs.Lines.{body_line}
use Rattle.plan.specs.declared.stmt.Places.{Places}
use Rattle.plan.specs.declared.stmt.Places.TheVariants.{From}
use Rattle.plan.specs.Semantics.Worked.{constants, symbol, is, finds, load, scan_group, scan_plan, scan_certificate}
use Rattle.soundness.specs.Claims.{In}
use Rattle.soundness.specs.Given.{outline_of}
use Rattle.soundness.specs.Obligations.{Updating}
use Rattle.soundness.specs.Origins.{Outline}
use Rattle.soundness.specs.Shown.{start}
use Rattle.soundness.specs.Worked.{scan_algorithm}
use Rattle.soundness.specs.Nests.Nest.{Loop}
use Rattle.soundness.specs.Nests.Tests.{is_among}
use Rattle.audit.specs.Verdict.Shown.Plain.{IsPlain}
use Rattle.soundness.specs.Binders.View.{grid_binders}
use Rattle.audit.specs.Verdict.Shown.Worked.{scan_rules, ScanIsAccepted}
use Rattle.audit.proofs.OfVerdict.Two.{one_loop, only_one}

abbrev outline : Outline
outline = outline_of scan_plan scan_certificate 0 scan_group

abbrev whole : Span1
whole = constants (pos 0) (pos 3)

abbrev places : List Places
places = From (number (pos 0)) 4 ∷ []

only_update : (P : Updating → Type 0) (k : Updating) → P k → (u : Updating) → In u (k ∷ []) → P u
only_update P k h u (inl e) = subst P (sym e) h
only_update P k h u (inr none) = absurd none

scan_plain : IsPlain (scan_rules 0) scan_algorithm outline scan_group.body (body_line scan_plan 0) (start (grid_binders (1 ∷ [])))
scan_plain = (
  (refl, refl),
  (λ c m. absurd m),
  (
    (
      refl,
      refl,
      (
        record {
          stored = record { places = places; stand = refl; seated = refl };
          updated = tt;
          left = (tt, tt);
          right = (refl, ((tt, tt, tt), tt));
        },
        (λ c m. absurd m),
        tt,
      ),
    ),
    (only_one _ 0 (record {
      places = places;
      stand = refl;
      made = inl (record {
        loops = record { symbol = 1; span = whole } ∷ [];
        buffer = 0;
        at = is (codes "x") (symbol 1) ∷ [];
        value = Call (codes "in") (More (Clamp (Name (codes "x")) (Number I32 (pos 0)) (Number I32 (pos 3))) End);
        nest = refl;
        plain = record {
          definition = refl;
          function = refl;
          forms = refl;
          pure = refl;
          matched = refl;
          region = one_loop whole refl;
          straight = refl;
          new = refl;
          seated = refl;
        };
      });
    })),
    (
      (
        refl,
        refl,
        (
          record {
            stored = record { places = places; stand = refl; seated = refl };
            updated = (refl, only_update _ (record { before = 0; next = 1 }) (λ e. refl));
            left = (tt, tt);
            right = (
              (record { used = refl; stored = record { places = places; stand = refl; seated = refl }; inside = refl; met = (refl, tt) }, (tt, tt)),
              (record { used = refl; stored = record { places = places; stand = refl; seated = refl }; inside = refl; met = (refl, tt) }, ((tt, tt), tt)),
            );
          },
          (λ c m. absurd m),
          tt,
        ),
      ),
      (only_one _ 1 (record {
        places = places;
        stand = refl;
        made = inr (inr (record {
          loops = record { symbol = 2; span = constants (pos 1) (pos 3) } ∷ [];
          buffer = 0;
          update = 0;
          at = finds (codes "x") (Name (codes "r")) ∷ is (codes "r") (symbol 2) ∷ [];
          value = Binary Add (load 0 (Name (codes "r") ∷ [])) (load 0 (Binary Sub (Name (codes "r")) (Number I32 (pos 1)) ∷ []));
          nest = refl;
          plain = record {
            definition = refl;
            function = refl;
            forms = refl;
            matched = refl;
            pure = [];
            reduced = record { symbol = 2; span = constants (pos 1) (pos 3) } ∷ [];
            loops = refl;
            outer = λ l m. absurd m;
            inner = λ l m. elim m [ inl e ↦ subst (λ (k : Loop). is_among (is (codes "r") (symbol 2) ∷ []) k ≡ true) (sym e) refl | inr none ↦ absurd none ];
            ranges = record { variable = codes "r"; low = pos 1; high = pos 3 } ∷ [];
            known = refl;
            whole = (refl, refl, refl, tt);
            region = record { many = refl; spans = λ l m. absurd m; small = λ l m. absurd m };
          };
          before = refl;
          inside = only_one _ 0 (λ e. (inl (refl, refl), tt));
        }));
      })),
      (record { used = refl; inside = refl }, (λ c m. absurd m), tt),
    ),
  ),
)

pub scan_accepted : ScanIsAccepted
scan_accepted = record { plain = scan_plain; shown = refl; unclaimed = refl }
