-- Reasons: when two are one, and their words.
use Rattle.std.specs.Prelude.{ℕ, Bool, true, false, List, ◌++◌, codes}
use Rattle.std.specs.Str.{bytes_eq}
use Rattle.ch_base.specs.declared.event.Why.{Why}
use Rattle.ch_base.specs.declared.event.Why.TheVariants as whys
use Rattle.ch_ident.specs.declared.reason.Reason.{Reason}
use Rattle.ch_ident.specs.declared.reason.Reason.TheVariants as reasons

-- two reasons are one
abbrev pub same_reason : Reason → Reason → Bool
same_reason reasons.Normal reasons.Normal = true
same_reason (reasons.Exception text) (reasons.Exception other) = bytes_eq text other
same_reason reasons.Disconnect reasons.Disconnect = true
same_reason reasons.NodeDown reasons.NodeDown = true
same_reason reasons.UnknownId reasons.UnknownId = true
same_reason reason other = false

-- the word of a reason
abbrev pub reason_word : Reason → List ℕ
reason_word reasons.Normal = codes "normal"
reason_word (reasons.Exception text) = codes "exception"
reason_word reasons.Disconnect = codes "disconnect"
reason_word reasons.NodeDown = codes "nodedown"
reason_word reasons.UnknownId = codes "unknownid"

-- the text of a doom by a link that was told this reason
abbrev pub link_text : Reason → List ℕ
link_text reason = codes "link " ++ reason_word reason

-- the reason that is told where a link breaks
abbrev pub reason_of : Why → Reason
reason_of whys.Disconnect = reasons.Disconnect
reason_of whys.NodeDown = reasons.NodeDown

-- two causes of a break are one
abbrev pub same_why : Why → Why → Bool
same_why whys.Disconnect whys.Disconnect = true
same_why whys.NodeDown whys.NodeDown = true
same_why why other = false
