-- What the words of the command line ask for.
use Rattle.std.specs.Prelude.{ℕ, Bool, true, false, not, List, map, Option, Some, None, IfSome, IsSomeAnd, String, string_bytes}
use Rattle.mn_model.specs.declared.search.Goal.{Goal}
use Rattle.mn_order.specs.declared.choice.Choice.{Choice}
use Rattle.mn_options.specs.Meant.{choice_of, limit_of, model_name, wanted_of}
use Rattle.mn_options.specs.Rules.{asks_for, first_broken}
use Rattle.mn_options.specs.Words.{words_of}
use Rattle.mn_options.specs.declared.table.CommandOption.TheVariants.{FindAllSols, NodeLimit, NoPrintSols, Redump, SolLimit}
use Rattle.mn_options.specs.declared.usage.Usage.{Usage}
use Rattle.mn_driver.specs.Sources.{Origin, origin_of, origin_told}
use Rattle.mn_driver.specs.declared.plan.Plan.{Plan}
use Rattle.mn_driver.specs.declared.request.Request.{Request}

-- where the model that lawful words ask for comes from, whether its text is written in place of its solutions, whether those are printed and
-- whether all are looked for, the limits, and how the variable of a branching is chosen
pub record Asked : Type 0 where
  pub model : Origin
  pub redump : Bool
  pub print_sols : Bool
  pub find_all : Bool
  pub sol_limit : Option ℕ
  pub node_limit : Option ℕ
  pub choice : Choice

-- the most solutions that are looked for: as many as the words say; else all where they say so or the best is sought, and one
-- where they don't
abbrev pub solution_limit : Option ℕ → Bool → Option Goal → Option ℕ
solution_limit (Some n) all goal = Some n
solution_limit None true goal = None
solution_limit None false (Some g) = None
solution_limit None false None = Some 1

-- how an instance with such an objective, or without one, is searched then
abbrev pub plan_of : Asked → Option Goal → Plan
plan_of a goal = record { shown = a.print_sols; choice = a.choice; node_limit = a.node_limit; solution_limit = solution_limit a.sol_limit a.find_all goal }

-- words that break a rule ask for nothing
abbrev pub asked_unless : Option Usage → Option Origin → List (List ℕ) → Option Asked
asked_unless None (Some model) words = Some (record {
  model = model;
  redump = asks_for Redump (words_of words);
  print_sols = not (asks_for NoPrintSols (words_of words));
  find_all = asks_for FindAllSols (words_of words);
  sol_limit = limit_of SolLimit (words_of words);
  node_limit = limit_of NodeLimit (words_of words);
  choice = choice_of (words_of words);
})
asked_unless _ _ words = None

abbrev pub asked : List (List ℕ) → Option Asked
asked words = asked_unless (first_broken words) (origin_told (model_name words) (wanted_of (words_of words))) words

-- the same as it is handed on
abbrev pub asked_of : Request → Asked
asked_of request = record {
  model = origin_of request.model;
  redump = request.redump;
  print_sols = request.print_sols;
  find_all = request.find_all;
  sol_limit = request.sol_limit;
  node_limit = request.node_limit;
  choice = request.choice;
}

-- the words ask for something, and this holds of it; and wherever they ask for something, it holds
abbrev pub Ask : {A : Type 0} → List (String A) → (Asked → Type 0) → Type 0
Ask words P = IsSomeAnd (asked (map string_bytes words)) P

abbrev pub WhereAsked : {A : Type 0} → List (String A) → (Asked → Type 0) → Type 0
WhereAsked words P = IfSome (asked (map string_bytes words)) P

-- what they ask for, and the rule that they break first
abbrev pub asked_by : {A : Type 0} → List (String A) → Option Asked
asked_by words = asked (map string_bytes words)

abbrev pub broken_by : {A : Type 0} → List (String A) → Option Usage
broken_by words = first_broken (map string_bytes words)
