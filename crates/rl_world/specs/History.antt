-- The history of a group: its edits, the evaluations that were committed, and the one that is open.
use Rattle.std.specs.Prelude.{ℕ, ◌+◌, ◌-◌, ◌*◌, ◌^◌, nat_le, Bool, true, not, ◌&&◌, List, [], ◌∷◌, ◌++◌, length, replicate, zip, Option, None, Some, is_some, option_map, unwrap_or, slice_get, slice_set, slice_index_or, drop, if◌then◌else◌}
use Rattle.std.specs.List.{list_all}
use Rattle.rl_rules.specs.Editing.{handed_on}
use Rattle.rl_rules.specs.Outcomes.{alerts_left}
use Rattle.rl_rules.specs.declared.alert.Alert.{Alert}
use Rattle.rl_rules.specs.declared.rule.Group.{Group}
use Rattle.rl_rules.specs.declared.evaluation.RuleResult.{RuleResult}
use Rattle.rl_rules.specs.declared.evaluation.Evaluation.{Evaluation}
use Rattle.rl_world.specs.declared.fault.BookFault.{BookFault}
use Rattle.rl_world.specs.declared.fault.BookFault.TheVariants as faults
use Rattle.rl_world.specs.declared.item.Item.{Item}
use Rattle.rl_world.specs.declared.item.Item.TheVariants as kinds
use Rattle.rl_world.specs.declared.opened.OpenEvaluation.{OpenEvaluation}

-- X is what an open evaluation keeps of what a shard showed
pub record History (X : Type 0) : Type 0 where
  -- the group as it began
  pub first : Group
  -- how many items it may have
  pub records : ℕ
  -- the edits, and the evaluations that were committed, in order
  pub items : List Item
  -- the group as it is now
  pub group : Group
  -- the evaluations among the items
  pub evaluations : List Evaluation
  pub opened : Option (OpenEvaluation X)

-- the alerts that the rules have after an evaluation that gave these results; a rule of which none are known had none
abbrev pub alerts_then : List (List Alert) → List RuleResult → List (List Alert)
alerts_then alerts [] = []
alerts_then alerts (result ∷ results) = alerts_left (slice_index_or alerts 0 []) result.outcome ∷ alerts_then (drop 1 alerts) results

-- the alerts that the rules of an edited group have, by the group before and what its rules had
abbrev pub alerts_edited : Group → List (List Alert) → Group → List (List Alert)
alerts_edited old alerts new = handed_on new.rules (zip old.rules alerts)

-- the alerts after one item and the next, from a group and what its rules have
abbrev pub alerts_after : Group → List (List Alert) → List Item → List (List Alert)
alerts_after group alerts [] = alerts
alerts_after group alerts (kinds.Edited next ∷ items) = alerts_after next (alerts_edited group alerts next) items
alerts_after group alerts (kinds.Evaluated evaluation ∷ items) = alerts_after group (alerts_then alerts evaluation.outcomes) items

-- the group after them
abbrev pub group_after : Group → List Item → Group
group_after group [] = group
group_after group (kinds.Edited next ∷ items) = group_after next items
group_after group (kinds.Evaluated evaluation ∷ items) = group_after group items

-- the evaluations among them
abbrev pub evaluations_in : List Item → List Evaluation
evaluations_in [] = []
evaluations_in (kinds.Edited group ∷ items) = evaluations_in items
evaluations_in (kinds.Evaluated evaluation ∷ items) = evaluation ∷ evaluations_in items

-- `seconds` seconds have passed after a moment, if there is one
abbrev pub has_passed : ℕ → Option ℕ → ℕ → Bool
has_passed seconds None now = true
has_passed seconds (Some last) now = nat_le (last + seconds * 10 ^ 9) now

-- a moment that is not later than the last
abbrev pub not_later : Option ℕ → ℕ → Option BookFault
not_later None t = None
not_later (Some last) t = if nat_le t last then Some (faults.MomentNotLater last) else None

module _ {X : Type 0} where
  -- the alerts that the rules have now: at first each had none
  abbrev pub alerts_of : History X → List (List Alert)
  alerts_of history = alerts_after history.first (handed_on history.first.rules []) history.items

  -- the moment of the last evaluation that was committed
  abbrev pub last_moment : History X → Option ℕ
  last_moment history = option_map (λ evaluation. evaluation.t) (slice_get history.evaluations (length history.evaluations - 1))

  -- an evaluation is due: none is open, and the interval has passed after the last one
  abbrev pub is_due : History X → ℕ → Bool
  is_due history now = not (is_some history.opened) && has_passed history.group.interval (last_moment history) now

  -- why no evaluation can begin at the moment, if so
  abbrev pub begin_fault : History X → ℕ → Option BookFault
  begin_fault history t = if is_some history.opened then Some faults.Busy else not_later (last_moment history) t

  -- the shard was asked
  abbrev pub is_gathered : OpenEvaluation X → ℕ → Bool
  is_gathered opened shard = is_some (unwrap_or (slice_get opened.gathered shard) None)

  abbrev pub asked_fault : Option (OpenEvaluation X) → ℕ → Option BookFault
  asked_fault None shard = Some faults.NotOpen
  asked_fault (Some opened) shard = if is_gathered opened shard then Some faults.AlreadyGathered else None

  -- why the shard cannot be asked, if so
  abbrev pub gather_fault : History X → ℕ → Option BookFault
  gather_fault history shard = asked_fault history.opened shard

  -- every shard was asked
  abbrev pub is_complete : OpenEvaluation X → Bool
  is_complete opened = list_all is_some opened.gathered

  abbrev pub is_session_full : History X → Bool
  is_session_full history = nat_le history.records (length history.items)

  abbrev pub closing_fault : Option (OpenEvaluation X) → Bool → Option BookFault
  closing_fault None full = Some faults.NotOpen
  closing_fault (Some opened) full = if is_complete opened then (if full then Some faults.SessionFull else None) else Some faults.Incomplete

  -- why nothing can be committed, if so
  abbrev pub commit_fault : History X → Option BookFault
  commit_fault history = closing_fault history.opened (is_session_full history)

  abbrev pub abandon_fault : History X → Option BookFault
  abandon_fault history = if is_some history.opened then None else Some faults.NotOpen

  -- why the group cannot be edited, if so
  abbrev pub edit_fault : History X → Option BookFault
  edit_fault history = if is_some history.opened then Some faults.Busy else (if is_session_full history then Some faults.SessionFull else None)

  -- with an evaluation open, for which no shard was asked yet
  abbrev pub begun : ℕ → History X → ℕ → History X
  begun shards history t = record { first = history.first; records = history.records; items = history.items; group = history.group; evaluations = history.evaluations; opened = Some (record { t = t; gathered = replicate shards None }) }

  abbrev pub with_shown : ℕ → ℕ → X → OpenEvaluation X → OpenEvaluation X
  with_shown shard place shown opened = record { t = opened.t; gathered = slice_set opened.gathered shard (Some (record { place = place; shown = shown })) }

  -- with what a shard showed
  abbrev pub gathered : History X → ℕ → ℕ → X → History X
  gathered history shard place shown = record { first = history.first; records = history.records; items = history.items; group = history.group; evaluations = history.evaluations; opened = option_map (with_shown shard place shown) history.opened }

  -- with one evaluation more, and none open
  abbrev pub committed : History X → Evaluation → History X
  committed history evaluation = record { first = history.first; records = history.records; items = history.items ++ kinds.Evaluated evaluation ∷ []; group = history.group; evaluations = history.evaluations ++ evaluation ∷ []; opened = None }

  -- with one edit more, and none open
  abbrev pub edited : History X → Group → History X
  edited history group = record { first = history.first; records = history.records; items = history.items ++ kinds.Edited group ∷ []; group = group; evaluations = history.evaluations; opened = None }

  abbrev pub abandoned : History X → History X
  abandoned history = record { first = history.first; records = history.records; items = history.items; group = history.group; evaluations = history.evaluations; opened = None }
