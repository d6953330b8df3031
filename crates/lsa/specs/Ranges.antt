-- What the field types of a body in Rust ensure, and what they don't: a field of one, two or three
-- bytes may have a wider type, and a list may be longer than its count can say. Together they are
-- `IsBody`.
use Rattle.std.specs.Prelude.{◌<◌, ◌^◌, length}
use Rattle.std.specs.List.{AllByRecursion}
use Rattle.lsa.specs.declared.body.RouterLink.{RouterLink}
use Rattle.lsa.specs.declared.body.RouterLsa.{RouterLsa}
use Rattle.lsa.specs.declared.body.SummaryTos.{SummaryTos}
use Rattle.lsa.specs.declared.body.SummaryLsa.{SummaryLsa}
use Rattle.lsa.specs.declared.body.ExternalTos.{ExternalTos}
use Rattle.lsa.specs.declared.body.ExternalLsa.{ExternalLsa}
use Rattle.lsa.specs.declared.body.LsaBody.{LsaBody}
use Rattle.lsa.specs.declared.body.LsaBody.TheVariants as body
use Rattle.lsa.specs.Text.{IsLinkTos, IsNetworkLsa}

-- ---- ensured by the types

pub record LinkIsTyped (l : RouterLink) : Type 0 where
  pub link_id : l.link_id < 2 ^ 32
  pub link_data : l.link_data < 2 ^ 32
  pub metric : l.metric < 2 ^ 16
  pub tos : AllByRecursion IsLinkTos l.tos

pub record RouterIsTyped (r : RouterLsa) : Type 0 where
  pub flags : r.flags < 2 ^ 8
  pub links : AllByRecursion LinkIsTyped r.links

abbrev pub SummaryTosIsTyped : SummaryTos → Type 0
SummaryTosIsTyped t = t.tos < 2 ^ 8

pub record SummaryIsTyped (s : SummaryLsa) : Type 0 where
  pub mask : s.mask < 2 ^ 32
  pub tos : AllByRecursion SummaryTosIsTyped s.tos

pub record ExternalTosIsTyped (t : ExternalTos) : Type 0 where
  pub tos : t.tos < 2 ^ 8
  pub forwarding : t.forwarding < 2 ^ 32
  pub tag : t.tag < 2 ^ 32

pub record ExternalIsTyped (e : ExternalLsa) : Type 0 where
  pub mask : e.mask < 2 ^ 32
  pub forwarding : e.forwarding < 2 ^ 32
  pub tag : e.tag < 2 ^ 32
  pub tos : AllByRecursion ExternalTosIsTyped e.tos

abbrev pub BodyIsTyped : LsaBody → Type 0
BodyIsTyped (body.Router r) = RouterIsTyped r
BodyIsTyped (body.Network n) = IsNetworkLsa n
BodyIsTyped (body.NetworkSummary s) = SummaryIsTyped s
BodyIsTyped (body.RouterSummary s) = SummaryIsTyped s
BodyIsTyped (body.External e) = ExternalIsTyped e

-- ---- left to prove

abbrev pub LinkFits : RouterLink → Type 0
LinkFits l = length l.tos < 2 ^ 8

pub record RouterFits (r : RouterLsa) : Type 0 where
  pub count : length r.links < 2 ^ 16
  pub links : AllByRecursion LinkFits r.links

abbrev pub SummaryTosFits : SummaryTos → Type 0
SummaryTosFits t = t.metric < 2 ^ 24

pub record SummaryFits (s : SummaryLsa) : Type 0 where
  pub metric : s.metric < 2 ^ 24
  pub tos : AllByRecursion SummaryTosFits s.tos

abbrev pub ExternalTosFits : ExternalTos → Type 0
ExternalTosFits t = t.metric < 2 ^ 24

pub record ExternalFits (e : ExternalLsa) : Type 0 where
  pub metric : e.metric < 2 ^ 24
  pub tos : AllByRecursion ExternalTosFits e.tos

abbrev pub BodyFits : LsaBody → Type 0
BodyFits (body.Router r) = RouterFits r
BodyFits (body.Network n) = Unit {0}
BodyFits (body.NetworkSummary s) = SummaryFits s
BodyFits (body.RouterSummary s) = SummaryFits s
BodyFits (body.External e) = ExternalFits e
