use Rattle.std.proofs.Common.{sym, ap, ◌∙◌}
use Rattle.router.specs.Received.{is_accepted_before_exchange}
use Rattle.router.proofs.Heard.{acknowledges, came_in_exchange, describes, greets}
use Rattle.router.proofs.Heard.{is_discarded}
use Rattle.router.proofs.Heard.{requests, updates}
use Rattle.router.proofs.Making.{done}
use Rattle.router.proofs.packets.receive_packet.Goals as goal

pub returns-then-not-is_processed : goal.returns-then-not-is_processed
returns-then-not-is_processed c =
    done _ (is_discarded c.args.moment c.args.interface c.args.packet.now c.args.router.now
    (sym c.is_processed.ensures ∙ c.if-not-is_processed.true))

pub receive_request-requires-clause-exchange : goal.receive_request-requires-clause-exchange
receive_request-requires-clause-exchange c =
    came_in_exchange c.args.moment c.args.interface c.args.packet.now c.args.router.now.present
    (sym c.is_processed.ensures ∙ c.if-not-is_processed.false)
    (ap is_accepted_before_exchange c.in-Request.is)

pub returns-in-Hello : goal.returns-in-Hello
returns-in-Hello c =
    greets c.args.moment c.args.interface c.args.packet.now c.receive_hello.result c.in-Hello.hello
    (sym c.is_processed.ensures ∙ c.if-not-is_processed.false) c.in-Hello.is c.receive_hello.ensures

pub returns-in-Description : goal.returns-in-Description
returns-in-Description c =
    describes c.args.moment c.args.interface c.args.packet.now c.receive_description.result
    c.in-Description.description (sym c.is_processed.ensures ∙ c.if-not-is_processed.false)
    c.in-Description.is c.receive_description.ensures

pub returns-in-Request : goal.returns-in-Request
returns-in-Request c =
    requests c.args.moment c.args.interface c.args.packet.now c.receive_request.result
    c.in-Request.keys
    c.as_slice.result.now (sym c.is_processed.ensures ∙ c.if-not-is_processed.false)
    c.in-Request.is c.as_slice.ensures c.receive_request.ensures

pub returns-in-Update : goal.returns-in-Update
returns-in-Update c =
    updates c.args.moment c.args.interface c.args.packet.now c.receive_lsas.result c.in-Update.lsas
    c.as_slice-in-Update.result.now (sym c.is_processed.ensures ∙ c.if-not-is_processed.false)
    c.in-Update.is c.as_slice-in-Update.ensures c.receive_lsas.ensures

pub returns-in-Acknowledgment : goal.returns-in-Acknowledgment
returns-in-Acknowledgment c =
    acknowledges c.args.moment c.args.interface c.args.packet.now c.receive_acknowledgment.result
    c.in-Acknowledgment.headers c.as_slice-in-Acknowledgment.result.now
    (sym c.is_processed.ensures ∙ c.if-not-is_processed.false)
    c.in-Acknowledgment.is c.as_slice-in-Acknowledgment.ensures c.receive_acknowledgment.ensures
