mod Uses
pub mod Reference
pub mod ReferenceOrders
