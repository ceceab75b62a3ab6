-- All streams without their covered entries.
use Rattle.std.proofs.Common.{◌≡◌, ℕ, ◌<◌, ◌≤◌, ◌⊎◌, not, Bool, true, List, length, refl, sym, ap, subst, ◌∙◌, arith}
use Rattle.rl_labels.specs.laws.OrderLaws.{entry_cmp_total, entry_cmp-IsAntisymmetric}
use Rattle.rl_labels.specs.declared.entry.Entry.{Entry}
use Rattle.rl_labels.specs.declared.limits.Limits.{Limits}
use Rattle.rl_parts.specs.ChunksState.{ChunksView}
use Rattle.rl_parts.specs.StoreUse.{FaultsRise, Puts}
use Rattle.rl_parts.specs.Rewriting.{PlanView}
use Rattle.rl_streams.specs.HeldSet.{set_of}
use Rattle.rl_streams.specs.StreamRows.{AreGiven, Row, joined, newest_map, numbers_in}
use Rattle.rl_streams.specs.StreamsState.{IsWhole, view_of}
use Rattle.rl_streams.specs.Rewritten.{AreOf, ArePlanned, AreRemoved, Rewrites, numbers_gone, rewritten, with_faults, without}
use Rattle.rl_streams.specs.laws.HeldLaws.{set-filter}
use Rattle.rl_streams.proofs.Plans.{fewer_rewritten, newest_rewritten}
use Rattle.rl_streams.proofs.Removed.{given_since, is_removed, joined_left, none_gone, streams_rewritten}

module _ (limits : Limits) (rows : List Row) (count : ℕ) (before seen : ChunksView) (whole : IsWhole limits rows before count) where
  module _ (puts : Puts before seen.next seen) (counted : seen.seen.faults ≡ before.seen.faults) (covers : Entry → Bool) (plans : List PlanView) (after : ChunksView) (of : AreOf rows plans) (planned : ArePlanned covers before plans seen) (removed : AreRemoved seen (numbers_gone plans) after) where
    -- and else the plans are carried out
    pub whole_rewritten : (now : ℕ) → now ≡ length (joined (rewritten rows plans)) → IsWhole limits (rewritten rows plans) after now
    whole_rewritten now counted = record {
      streams = streams_rewritten covers rows before plans seen after whole.streams of planned puts.seen.honest removed;
      counted = counted;
      room = omega (arith, counted, fewer_rewritten rows plans of planned.sound, whole.counted, whole.room);
    }

    pub view_rewritten : Rewrites (view_of limits rows before) (view_of limits (rewritten rows plans) after)
    view_rewritten = record {
      limits = refl;
      newest = ap newest_map (newest_rewritten rows plans of planned.sound);
      next = omega (arith, puts.up, removed.next);
      honest = removed.honest ∙ puts.seen.honest;
      faults = subst (λ n. FaultsRise n after.seen.faults) counted removed.faults;
      refused = removed.refused;
      counted = removed.counted ∙ ap (with_faults (length removed.refused)) counted;
      removed = λ number lost kept. removed.gone number (is_removed covers rows before plans seen after whole.streams of planned puts.seen.honest removed number lost) kept;
      others = λ number apart stays. removed.others number (none_gone covers rows before plans seen after whole.streams of planned puts.seen.honest removed number stays) ∙ puts.seen.others number (subst (λ n. (number < before.next) ⊎ (n ≤ number)) removed.next apart);
      given = subst (λ next. AreGiven (numbers_in rows) before.next next (numbers_in (rewritten rows plans))) (sym removed.next) (given_since covers rows before plans seen after whole.streams of planned puts.seen.honest removed);
    }

    pub held_rewritten : before.seen.honest ≡ true → set_of (joined (rewritten rows plans)) ≡ without covers (set_of (joined rows))
    held_rewritten honest =
        ap set_of (joined_left covers rows before plans seen after whole.streams of planned puts.seen.honest removed honest)
        ∙ set-filter entry_cmp_total entry_cmp-IsAntisymmetric (λ entry. not (covers entry)) (joined rows)
