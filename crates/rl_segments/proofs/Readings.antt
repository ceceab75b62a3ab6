-- What is read of a record's bytes is that record.
use Rattle.std.proofs.Common.{◌≡◌, ℕ, List, Ok, Err, refl, sym, ap, subst, ◌∙◌}
use Rattle.rl_plain.specs.Answers.{Fails}
use Rattle.rl_plain.specs.declared.refusal.OrMemory.{OrMemory}
use Rattle.rl_plain.specs.declared.refusal.OrMemory.TheVariants.{Fault, Memory}
use Rattle.rl_records.specs.RecordBytes.{record_bytes}
use Rattle.rl_records.specs.declared.record.Record.{Record}
use Rattle.rl_segments.specs.Forms.{RecordForm, record_form}
use Rattle.rl_segments.specs.FrameReading.{Found}
use Rattle.rl_segments.specs.RecordReading.{record_in}
use Rattle.rl_segments.specs.Records.{IsInMemory}
use Rattle.rl_segments.specs.declared.fault.RecordFault.{RecordFault}
use Rattle.rl_segments.proofs.WrittenFields.{IsShort}
use Rattle.rl_segments.proofs.WrittenRecords.{record_again}
use Rattle.rl_segments.proofs.Same.{same_record}

done : RecordForm → Found RecordForm
done form = Ok form

form_is : (a b : RecordForm) → done a ≡ done b → a ≡ b
unfolding done
form_is a b e = cc

-- the bytes of a record are read as its form
form_read : (bytes : List ℕ) (it : Record) → IsInMemory it → bytes ≡ record_bytes it → IsShort bytes → record_in bytes ≡ Ok (record_form it)
form_read bytes it has is short = ap record_in is ∙ record_again it has (subst IsShort is short)

pub is_read : (bytes : List ℕ) (got it : Record) → record_in bytes ≡ Ok (record_form got) → IsInMemory it → bytes ≡ record_bytes it → IsShort bytes → got ≡ it
unfolding done
is_read bytes got it read has is short = same_record got it (form_is (record_form got) (record_form it) (sym read ∙ form_read bytes it has is short))

pub is_for_memory : (bytes : List ℕ) (error : OrMemory RecordFault) (it : Record) → Fails error (record_in bytes) → IsInMemory it → bytes ≡ record_bytes it → IsShort bytes → error ≡ Memory
is_for_memory bytes Memory it fails has is short = refl
is_for_memory bytes (Fault fault) it fails has is short = absurd (clash (sym (form_read bytes it has is short) ∙ fails))
  where
    clash : {form : RecordForm} {fault : RecordFault} → (let read : Found RecordForm = Ok form in read ≡ Err fault) → ⊥
    clash e = absurd cc
