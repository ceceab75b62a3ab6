-- Built matchers may be sent to another thread.
use denote.Param.Send.{IsSend, sendable}
use Rattle.std.proofs.Crossing as heap
use Rattle.rl_plain.proofs.text.PlainText.TheSendSync as text
use Rattle.rl_patterns.proofs.Crossing as patterns
use Rattle.rl_labels.specs.contracts.matcher.MatcherCode as MatcherCode
use Rattle.rl_labels.specs.contracts.selector.SelectorCode as SelectorCode

pub MatcherCode-send : IsSend MatcherCode.the_row
MatcherCode-send = search (patterns.crosses, text.the_send, sendable, heap.crosses) depth 20

pub SelectorCode-send : IsSend SelectorCode.the_row
SelectorCode-send = let code = MatcherCode-send in search (sendable, heap.crosses) depth 20

-- with these `search` shows that a type which holds built matchers may be sent
pub ruleset crosses = (MatcherCode-send, SelectorCode-send)
