pub mod ReceiptJob
