use Rattle.std.proofs.Common.{rules, ◌≡◌, true, false, Option, Some, Result, Err, List, length, map, refl, sym, subst}
use Rattle.std.proofs.lemmas.Option.{slice_get_read}
use Rattle.std.specs.Prelude.{slice_get}
use Rattle.lin.specs.Forms.{Form}
use Rattle.lin.specs.declared.span.Span1.{Span1}
use Rattle.plan.specs.declared.stmt.Places.{Places}
use Rattle.plan.specs.declared.stmt.Places.TheVariants.{From}
use Rattle.sched.specs.declared.stop.Stop.{Stop}
use Rattle.sched.specs.Limited.{Gives}
use Rattle.regions.specs.Taken.{FindsPlaces, is_shown, seated}
use Rattle.sched.specs.Taken.{places_count, run_of, shortest, site_of}
use Rattle.regions.proofs.Taken.{finds_none, finds_some, finds_stop}
use Rattle.regions.proofs.fetching.places_for.Goals as goal

pub returns-in_err-seats : goal.returns-in_err-seats
returns-in_err-seats c =
    let grid = c.args.grid.now in
    let sites = map site_of c.args.sites.now in
    let s = c.args.span.now in
    let place = c.in-Some.place in
    let count = c.in-Some.count in
    let origin = c.in-Some-get.origin.now in
    let e = c.in_err-seats.field-0.0 in
    let short : shortest grid s ≡ Some (place, count) = search rules in
    let fs = c.as_slice.result.now in
    let look = c.in-Some-get.ensures.lookup in
    let get : slice_get s.lower place ≡ Some origin =
    subst (λ (l : List Form). slice_get l place ≡ Some origin) c.as_slice.ensures (slice_get_read fs (length fs) place origin refl look.3.0 look.1) in
    let stop : c.from_residual-in_err-seats.result ≡ Err e = search rules in
    let none : Gives {X = Span1} {A = Span1} (Err e) (λ x. x) (run_of origin count) = first_of (assumption c, search rules) in
    subst (λ (r : Result (Option Places) Stop). FindsPlaces s r (seated grid sites c.args.dimension s)) (sym stop) (finds_stop grid sites c.args.dimension s (place, count) origin e short get none)

pub returns-then-not-branch : goal.returns-then-not-branch
returns-then-not-branch c =
    let grid = c.args.grid.now in
    let sites = map site_of c.args.sites.now in
    let s = c.args.span.now in
    let place = c.in-Some.place in
    let count = c.in-Some.count in
    let origin = c.in-Some-get.origin.now in
    let seats = c.in_ok-seats.seats in
    let short : shortest grid s ≡ Some (place, count) = search rules in
    let fs = c.as_slice.result.now in
    let look = c.in-Some-get.ensures.lookup in
    let get : slice_get s.lower place ≡ Some origin =
    subst (λ (l : List Form). slice_get l place ≡ Some origin) c.as_slice.ensures (slice_get_read fs (length fs) place origin refl look.3.0 look.1) in
    let run : run_of origin count ≡ Some seats = search rules in
    let no : is_shown grid sites c.args.dimension s seats ≡ false = search rules in
    finds_none grid sites c.args.dimension s (place, count) origin seats short get run no

pub returns : goal.returns
returns c =
    let grid = c.args.grid.now in
    let sites = map site_of c.args.sites.now in
    let s = c.args.span.now in
    let place = c.in-Some.place in
    let count = c.in-Some.count in
    let origin = c.in-Some-get.origin.now in
    let seats = c.in_ok-seats.seats in
    let short : shortest grid s ≡ Some (place, count) = search rules in
    let fs = c.as_slice.result.now in
    let look = c.in-Some-get.ensures.lookup in
    let get : slice_get s.lower place ≡ Some origin =
    subst (λ (l : List Form). slice_get l place ≡ Some origin) c.as_slice.ensures (slice_get_read fs (length fs) place origin refl look.3.0 look.1) in
    let run : run_of origin count ≡ Some seats = search rules in
    let yes : is_shown grid sites c.args.dimension s seats ≡ true = search rules in
    let placed : c.in_ok-places.places ≡ From origin (places_count count) = search rules in
    finds_some grid sites c.args.dimension s (place, count) origin seats c.in_ok-places.places short get run yes placed
