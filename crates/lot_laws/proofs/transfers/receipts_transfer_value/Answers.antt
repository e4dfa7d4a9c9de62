use Rattle.lot_laws.proofs.CallReceived.{server-gets, alone-gets, others-keep, together-same, waits-for-nothing}
use Rattle.lot_laws.proofs.transfers.receipts_transfer_value.Goals as goal

pub returns-clause-queued : goal.returns-clause-queued
returns-clause-queued c = waits-for-nothing

pub returns-clause-server : goal.returns-clause-server
returns-clause-server c = server-gets

pub returns-clause-alone : goal.returns-clause-alone
returns-clause-alone c = alone-gets

pub returns-clause-others : goal.returns-clause-others
returns-clause-others c = others-keep

pub returns-clause-together : goal.returns-clause-together
returns-clause-together c = together-same
