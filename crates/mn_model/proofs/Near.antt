-- Constraints whose constants are near the limits, made of others.
use Rattle.std.proofs.Common.{List, [], ◌∷◌, sym, subst}
use Rattle.std.specs.List.{AllByRecursion}
use Rattle.mn_model.specs.Lawful.{HasNearConstants, HaveNearConstants, IsNear, IsNearTerm}
use Rattle.mn_model.specs.Parts.{places, places_of, constants, constants_of}
use Rattle.mn_model.specs.Negation.{followed_by}
use Rattle.mn_model.specs.declared.constraint.Con.{Con}
use Rattle.mn_model.specs.declared.constraint.Con.TheVariants.{End}
use Rattle.mn_model.specs.declared.constraint.Con.TheVariants as made
use Rattle.mn_model.specs.declared.constraint.Term.{Term}
use Rattle.mn_model.proofs.Children.{made_implied, made_reified}
use Rattle.mn_model.proofs.Lists.{all_append}

-- a form around a constraint
pub near_around : (c : Con) (r : Term) → IsNearTerm r → HasNearConstants c → HasNearConstants (made.Reifyimply c r)
near_around c r bit near =
    subst HasNearConstants (sym (made_implied c r)) (record { places = all_append IsNearTerm (places c) (r ∷ []) near.places (bit, tt); constants = near.constants })

pub near_exactly : (c : Con) (r : Term) → IsNearTerm r → HasNearConstants c → HasNearConstants (made.Reify c r)
near_exactly c r bit near =
    subst HasNearConstants (sym (made_reified c r)) (record { places = all_append IsNearTerm (places c) (r ∷ []) near.places (bit, tt); constants = near.constants })

-- children
pub near_children : (cs : List Con) → AllByRecursion HasNearConstants cs → HaveNearConstants (followed_by cs End)
near_children [] all = record { places = tt; constants = tt }
near_children (c ∷ cs) all =
    let rest = near_children cs all.1 in
    record { places = all_append IsNearTerm (places c) (places_of (followed_by cs End)) all.0.places rest.places; constants = all_append IsNear (constants c) (constants_of (followed_by cs End)) all.0.constants rest.constants }

pub near_any : (cs : List Con) → AllByRecursion HasNearConstants cs → HasNearConstants (made.WatchedOr (followed_by cs End))
near_any cs all = let each = near_children cs all in record { places = each.places; constants = each.constants }
