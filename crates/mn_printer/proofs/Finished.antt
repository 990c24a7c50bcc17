-- What stands on a page with a whole text.
use Rattle.std.proofs.Common.{◌≡◌, ℕ, ◌+◌, ◌-◌, ◌<◌, ◌≤◌, min, List, length, ap, ◌∙◌, arith, take_all}
use Rattle.mn_model.specs.declared.limits.TheConstants.{TEXT_BYTES}
use Rattle.mn_printer.specs.Pages.{Written, onto, blank, greatest}

pub count_is : (page : Written) (text : List ℕ) → page ≡ onto blank text → page.count ≡ min (length text) greatest
unfolding onto blank
count_is page text e = ap (λ (w : Written). w.count) e ∙ turned greatest (length text)
  where
    turned : (most n : ℕ) → 0 + min (most - 0) n ≡ min n most
    turned most n = omega arith

pub length_within : (n count : ℕ) → count ≡ min n greatest → count ≤ TEXT_BYTES → n ≤ TEXT_BYTES
length_within n count e few = omega arith

pub length_past : (n count : ℕ) → count ≡ min n greatest → TEXT_BYTES < count → TEXT_BYTES < n
length_past n count e many = omega arith

pub kept_is : (page : Written) (text : List ℕ) → page ≡ onto blank text → length text ≤ TEXT_BYTES → page.kept ≡ text
unfolding onto blank
kept_is page text e few = ap (λ (w : Written). w.kept) e ∙ take_all TEXT_BYTES text few
