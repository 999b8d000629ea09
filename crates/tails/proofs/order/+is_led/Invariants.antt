use Rattle.std.proofs.Common.{length}
use Rattle.tails.proofs.order.+is_led.Given as goal

abbrev pub decreases-is_led : goal.decreases-is_led
decreases-is_led l = length l.spans.now
