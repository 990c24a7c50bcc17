-- Keeping what passes a test, where values may go at the ends alone.
use Rattle.std.specs.Prelude.{ℤ, Bool, int_le, cond, ◌&&◌, List}
use Rattle.std.specs.List.{list_any}
use Rattle.mn_boxes.specs.Sets.{Variable}

-- whether a stays: where it passes, and where values go at the ends alone, where one at or below it and one at or above it passes
unfoldable pub stays : Variable → (ℤ → Bool) → List ℤ → ℤ → Bool
stays var p xs a = cond var.bounded (list_any (λ x. int_le x a && p x) xs && list_any (λ x. int_le a x && p x) xs) (p a)
