-- What a body's types ensure and what is proved of it make it a body that can be written.
use Rattle.words.proofs.Each.{each_both}
use Rattle.lsa.specs.declared.body.RouterLink.{RouterLink}
use Rattle.lsa.specs.declared.body.SummaryTos.{SummaryTos}
use Rattle.lsa.specs.declared.body.SummaryLsa.{SummaryLsa}
use Rattle.lsa.specs.declared.body.ExternalTos.{ExternalTos}
use Rattle.lsa.specs.declared.body.LsaBody.{LsaBody}
use Rattle.lsa.specs.declared.body.LsaBody.TheVariants as body
use Rattle.lsa.specs.Ranges.{BodyFits, BodyIsTyped, ExternalTosFits, ExternalTosIsTyped, LinkFits}
use Rattle.lsa.specs.Ranges.{LinkIsTyped, SummaryFits, SummaryIsTyped, SummaryTosFits}
use Rattle.lsa.specs.Ranges.{SummaryTosIsTyped}
use Rattle.lsa.specs.Text.{IsBody, IsExternalTos, IsLink, IsSummaryLsa, IsSummaryTos}

is_link : (l : RouterLink) → LinkIsTyped l → LinkFits l → IsLink l
is_link l typed fits = record {
  link_id = typed.link_id;
  link_data = typed.link_data;
  metric = typed.metric;
  tos = typed.tos;
  count = fits;
}

is_summary_tos : (t : SummaryTos) → SummaryTosIsTyped t → SummaryTosFits t → IsSummaryTos t
is_summary_tos t typed fits = record { tos = typed; metric = fits }

is_summary : (s : SummaryLsa) → SummaryIsTyped s → SummaryFits s → IsSummaryLsa s
is_summary s typed fits = record {
  mask = typed.mask;
  metric = fits.metric;
  tos = each_both SummaryTosIsTyped SummaryTosFits IsSummaryTos is_summary_tos s.tos typed.tos
      fits.tos;
}

is_external_tos : (t : ExternalTos) → ExternalTosIsTyped t → ExternalTosFits t → IsExternalTos t
is_external_tos t typed fits = record {
  tos = typed.tos;
  metric = fits;
  forwarding = typed.forwarding;
  tag = typed.tag;
}

pub is_body : (b : LsaBody) → BodyIsTyped b → BodyFits b → IsBody b
is_body (body.Router r) typed fits = record {
  flags = typed.flags;
  links = each_both LinkIsTyped LinkFits IsLink is_link r.links typed.links fits.links;
  count = fits.count;
}
is_body (body.Network n) typed fits = typed
is_body (body.NetworkSummary s) typed fits = is_summary s typed fits
is_body (body.RouterSummary s) typed fits = is_summary s typed fits
is_body (body.External e) typed fits = record {
  mask = typed.mask;
  metric = fits.metric;
  forwarding = typed.forwarding;
  tag = typed.tag;
  tos = each_both ExternalTosIsTyped ExternalTosFits IsExternalTos is_external_tos e.tos typed.tos
      fits.tos;
}
