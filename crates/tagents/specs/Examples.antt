-- A machine of two agents that is certified: each sets its own flag once.
-- Source: own choice.
use Rattle.std.specs.Prelude.{Bool, true, false, [], ◌∷◌, Some, None, if◌then◌else◌}
use Rattle.tagents.specs.Agents.{Agents}
use Rattle.tagents.specs.Frames.{Frame, changed}
use Rattle.tagents.specs.Certificates.{IsCertified}

abbrev pub alike : Bool → Bool → Bool
alike true true = true
alike false false = true
alike true false = false
alike false true = false

-- a step sets the flag of its agent, and looks at it
abbrev pub flags : Frame Bool Bool Bool
flags = record { looks = alike; change = λ e p v. if alike e p then true else v }

abbrev pub setters : Agents (Bool → Bool) Bool Bool
setters =
    record {
      next = λ a s. if s a then None else Some (a, changed flags a s);
      agent_of = λ e. e;
      same = alike;
      clash = alike;
      leads = λ e f. false;
      stops = λ e. false;
    }

-- no flag is set, and both are
abbrev pub none_set : Bool → Bool
none_set p = false

abbrev pub both_set : Bool → Bool
both_set p = changed flags true (changed flags false none_set) p

abbrev pub SettersAreCertified : Type 0
SettersAreCertified = IsCertified setters none_set (false ∷ true ∷ []) both_set
