use Rattle.orders.specs.Work.{IsSound}
use Rattle.headline.specs.Work.{target, work_of}
use Rattle.headline.proofs.Runs.{pieces_right}
use Rattle.headline.proofs.laws.plans_are_right.Goals as goal

pub returns : goal.returns
returns c a p cert samples put_in is plan lists =
    let sound : IsSound (work_of a p cert samples) (target a p samples) = record { lists = lists; runs = pieces_right a p cert samples put_in is plan } in (
      c.every_order_is_right.ensures.right (work_of a p cert samples) (target a p samples) sound,
      c.every_order_is_right.ensures.finishes (work_of a p cert samples) (target a p samples) sound,
    )
