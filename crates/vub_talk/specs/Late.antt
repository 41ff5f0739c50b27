-- Why a conversation ends early that has begun.
use Rattle.vub_driver.specs.declared.error.DriverError.{DriverError}
use Rattle.vub_driver.specs.declared.error.DriverError.TheVariants as driver
use Rattle.vub_talk.specs.declared.fault.TalkFault.{TalkFault}
use Rattle.vub_talk.specs.declared.fault.TalkFault.TheVariants as fault

-- a refusal of the driver, whose want of memory is the conversation's
abbrev pub refusal_of : DriverError → TalkFault
refusal_of driver.OutOfMemory = fault.OutOfMemory
refusal_of e = fault.Driver e

-- what a driver may find wrong in a used ring
abbrev pub IsOfUse : DriverError → Type 0
IsOfUse driver.Outside = Unit {0}
IsOfUse driver.UsedAhead = Unit {0}
IsOfUse driver.BadId = Unit {0}
IsOfUse driver.BadLength = Unit {0}
IsOfUse e = ⊥

-- the rounds of a batch were too few, memory was refused, or a used ring is wrong
abbrev pub IsLate : TalkFault → Type 0
IsLate (fault.NotAtRest batch) = Unit {0}
IsLate fault.OutOfMemory = Unit {0}
IsLate (fault.Driver e) = IsOfUse e
IsLate e = ⊥
