use Rattle.meaning.proofs.Back.{pure_goes_back, left_goes_back, right_goes_back}
use Rattle.meaning.proofs.laws.calls_go_back.Goals as goal

pub returns : goal.returns
returns c = record {
  pure = λ a k f w e. pure_goes_back a k f w e;
  left = λ a k f i u w e h. left_goes_back a k f w e i u h;
  right = λ a k f i u w e h. right_goes_back a k f w e i u h;
}
